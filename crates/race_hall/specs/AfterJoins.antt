-- All that the caller of a race holds after the joins, and what it knows of it.
use Rattle.std.specs.Prelude.{◌≡◌, ℕ, ◌+◌, ◌<◌, ◌≤◌, List, length, slice_index_or, Vec}
use Rattle.std.specs.declared.alloc.Global.{Global}
use Rattle.std.specs.List.{AllZip}
use Rattle.link_ring.specs.declared.send.LinkSend.{LinkSend}
use Rattle.link_ring.specs.declared.receive.LinkReceive.{LinkReceive}
use Rattle.sync_model.specs.State.{MirrorState}
use Rattle.copy_workers.specs.declared.feeder_job.FeederEnd.{FeederEnd}
use Rattle.copy_workers.specs.declared.feeder_job.FeederJob.{FeederJob}
use Rattle.copy_workers.specs.Messages.{messages}
use Rattle.race_hall.specs.declared.finish.Sender.{Sender}
use Rattle.race_hall.specs.Entries.{Entry}
use Rattle.race_hall.specs.Race.{Course, IsCourse, plan_of, count_from}
use Rattle.race_hall.specs.JobResults.{Closed, AllFed}
use Rattle.race_hall.specs.Undelivered.{IsSenderOf}
use Rattle.link_mesh.specs.Mesh.{sender_at, place_at, IsLinkedAt, IsRowLinked, AllSent}

-- what isn't stored: the match, the feeders' jobs and ends, the locks' histories
pub record Holding (W : Type 0) : Type 0 where
  pub course : Course
  pub opening : W
  pub spare : ℕ
  pub job : ℕ → FeederJob
  pub end : ℕ → FeederEnd
  pub seat : ℕ → ℕ
  pub history : ℕ → List Entry

-- of the whole race
pub record IsHeld {W : Type 0} (h : Holding W) (sends : List (Vec LinkSend Global))
    (senders : List Sender) : Type 0 where
  pub fit : IsCourse h.course
  pub room : length h.course.commands ≤ h.spare
  pub few : h.course.mirrors < 256
  pub fed : AllFed h.course h.job h.end h.seat h.history
  pub count : length sends ≡ h.course.mirrors
  pub sent : AllSent (λ k. messages (plan_of h.course k) (h.end k).marked) sends
  pub each : AllZip (IsSenderOf h.course (λ k. (h.end k).marked))
      (count_from 0 h.course.mirrors) senders

-- of a mirror that isn't finished
pub record IsHeldAt {W : Type 0} (h : Holding W) (m : ℕ) (s : MirrorState W)
    (sends : List (Vec LinkSend Global)) (row : List LinkReceive) : Type 0 where
  pub there : m < h.course.mirrors
  pub closed : Closed h.course h.opening h.spare (h.seat m) (h.history m) s
  pub ends : row ≡ (h.end m).receives.items
  pub count : length row + 1 ≡ h.course.mirrors
  pub linked : IsRowLinked m sends row

-- one mirror and all that is needed for it
pub record IsOneHeld {W : Type 0} (h : Holding W) (m : ℕ) (s : MirrorState W)
    (sends : List (Vec LinkSend Global)) (row : List LinkReceive)
    (senders : List Sender) : Type 0 where
  pub race : IsHeld h sends senders
  pub here : IsHeldAt h m s sends row

-- all mirrors
pub record AreHeld {W : Type 0} (h : Holding W) (mirrors : List (MirrorState W))
    (sends : List (Vec LinkSend Global)) (rows : List (Vec LinkReceive Global))
    (senders : List Sender) : Type 0 where
  pub race : IsHeld h sends senders
  pub mirrors_count : length mirrors ≡ h.course.mirrors
  pub rows_count : length rows ≡ h.course.mirrors
  pub at : (m : ℕ) (s : MirrorState W) (v : Vec LinkReceive Global) → m < h.course.mirrors
      → s ≡ slice_index_or mirrors m s → v ≡ slice_index_or rows m v → IsHeldAt h m s sends v.items

-- the same over what the joins give: the feeders' ends, mirror by mirror, and the mirrors
pub record AreJoined {W : Type 0} (h : Holding W) (mirrors : List (MirrorState W))
    (ends : List FeederEnd) : Type 0 where
  pub fit : IsCourse h.course
  pub room : length h.course.commands ≤ h.spare
  pub few : h.course.mirrors < 256
  pub fed : AllFed h.course h.job h.end h.seat h.history
  pub mirrors_count : length mirrors ≡ h.course.mirrors
  pub ends_count : length ends ≡ h.course.mirrors
  pub each_end : (k : ℕ) (e : FeederEnd) → k < h.course.mirrors → e ≡ slice_index_or ends k e
      → e ≡ h.end k
  pub closed : (m : ℕ) (s : MirrorState W) → m < h.course.mirrors → s ≡ slice_index_or mirrors m s
      → Closed h.course h.opening h.spare (h.seat m) (h.history m) s
  pub links_count : (m : ℕ) → m < h.course.mirrors
      → length (h.end m).receives.items + 1 ≡ h.course.mirrors
  pub linked : (m j : ℕ) (r : LinkReceive) → m < h.course.mirrors
      → j < length (h.end m).receives.items → r ≡ slice_index_or (h.end m).receives.items j r
      → IsLinkedAt (place_at m j) (h.end (sender_at m j)).sends.items r
