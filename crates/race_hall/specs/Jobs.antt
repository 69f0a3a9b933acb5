-- The jobs of a race: what each is given, when it may be done, and what it gives back.
use Rattle.std.specs.Prelude.{◌≡◌, ℕ, ◌+◌, ◌*◌, ◌<◌, ◌≤◌, ◌^◌, Option, None, Some, List, [], length, slice_get}
use Rattle.std.specs.List.{AllByRecursion}
use Rattle.atomic_table.specs.Seated.{TableId}
use Rattle.atomic_table.specs.declared.shared.Seat.{Seat}
use Rattle.game_trait.specs.declared.event.Event.{Event as AnEvent}
use Rattle.game_trait.specs.declared.event.Event.TheVariants.{Step}
use Rattle.game_trait.specs.Game.{Rules as GameRules}
use Rattle.game_trait.specs.Keys.{KeysRise}
use Rattle.sync_model.specs.State.{MirrorState}
use Rattle.turn_lock.specs.declared.view.View.{View}
use Rattle.turn_lock.specs.Views.{view, FitsSeat}
use Rattle.mirror_lock.specs.declared.calls.LockCall.{LockCall}
use Rattle.mirror_lock.specs.declared.calls.LockCall.TheVariants.{Event}
use Rattle.mirror_lock.specs.declared.calls.LockReply.{LockReply}
use Rattle.mirror_lock.specs.Locked.{mirror_rules}
use Rattle.link_ring.specs.Ends.{misses_of}
use Rattle.copy_workers.specs.declared.copy_job.CopyJob.{CopyJob}
use Rattle.copy_workers.specs.Copied.{CopyEnds}
use Rattle.copy_workers.specs.declared.feeder_job.FeederJob.{FeederJob}
use Rattle.copy_workers.specs.declared.feeder_job.FeederEnd.{FeederEnd}
use Rattle.copy_workers.specs.declared.post.Asked.{Asked}
use Rattle.copy_workers.specs.declared.post.TrailMark.{TrailMark}
use Rattle.copy_workers.specs.Asking.{IsFeedingBelow}
use Rattle.copy_workers.specs.Sending.{MaySend}
use Rattle.copy_workers.specs.Fed.{FeederEnds}
use Rattle.race_hall.specs.declared.doer.Work.{Work}
use Rattle.race_hall.specs.declared.doer.Work.TheVariants.{Copy, Feeder}
use Rattle.race_hall.specs.declared.doer.WorkEnd.{WorkEnd}
use Rattle.race_hall.specs.declared.doer.WorkEnd.TheVariants.{Copy as Copied, Feeder as Fed}
use Rattle.race_hall.specs.declared.doer.JobOver.{JobOver}
use Rattle.race_hall.specs.declared.doer.EndOver.{EndOver}
use Rattle.race_hall.specs.Posting.{asked_by, trail_by, drawn_by, SameSeat}

module _ {S W : Type 0} (game : GameRules W) where
  -- a copy's worker may work over this seat, which has asked nothing: it may ask for the copy's
  -- drafts and steps, and has calls enough
  pub record CanCopy (job : CopyJob)
      (seat : Seat S (View (MirrorState W) (LockCall W) (LockReply W))) : Type 0 where
    pub new : asked_by (view seat) ≡ []
    pub trail : trail_by (view seat) ≡ []
    pub takes : FitsSeat (mirror_rules game) (view seat) (Event (Step job.copy))
    pub bare : drawn_by (view seat) ≡ None
    pub budget : job.budget < 2 ^ 63
    pub calls : 2 * job.budget ≤ (view seat).calls

  -- a feeder may work over this seat
  pub record CanFeed (job : FeederJob)
      (seat : Seat S (View (MirrorState W) (LockCall W) (LockReply W))) : Type 0 where
    pub new : asked_by (view seat) ≡ []
    pub takes : (e : AnEvent) → IsFeedingBelow job.stagger.length e
        → FitsSeat (mirror_rules game) (view seat) (Event e)
    pub bare : drawn_by (view seat) ≡ None
    pub calls : 8 * job.budget + length job.plan.items ≤ (view seat).calls
    pub grows : length job.plan.items + job.foreign ≤ (view seat).grows
    pub rises : KeysRise job.plan.items
    pub room : AllByRecursion (MaySend (length job.plan.items + job.stagger.length)) job.sends.items
    pub misses : AllByRecursion (λ r. misses_of r < 2 ^ 63) job.receives.items
    pub seven : length job.receives.items ≤ 7
    pub budget : job.budget < 2 ^ 63
    pub short : length job.plan.items < 2 ^ 32

  -- the work may be done over this seat
  abbrev pub CanWork : Work → Seat S (View (MirrorState W) (LockCall W) (LockReply W)) → Type 0
  CanWork (Copy job) seat = CanCopy job seat
  CanWork (Feeder job) seat = CanFeed job seat

-- what a feeder gives back, of the end of its work
abbrev pub feeder_in : WorkEnd → Option FeederEnd
feeder_in (Copied end) = None
feeder_in (Fed end) = Some end

-- the work ended so, with this number of calls left of those that it had, and asked this with this trail: as
-- a copy's worker ends, or as a feeder ends
abbrev pub WorkEnds : Work → WorkEnd → ℕ → ℕ → List Asked → List TrailMark → Type 0
WorkEnds (Copy job) (Copied end) calls left asked trail = CopyEnds job end calls left [] asked [] trail
WorkEnds (Copy job) (Fed end) calls left asked trail = ⊥
WorkEnds (Feeder job) (Copied end) calls left asked trail = ⊥
WorkEnds (Feeder job) (Fed end) calls left asked trail = FeederEnds job end [] asked

-- a job and its end
pub record Ends {T S W : Type 0}
    (seat_of : T → Seat S (View (MirrorState W) (LockCall W) (LockReply W))) (job : JobOver T)
    (end : EndOver T) : Type 0 where
  pub seat : SameSeat (seat_of job.seat) (seat_of end.seat)
  pub work : WorkEnds job.work end.end (view (seat_of job.seat)).calls
      (view (seat_of end.seat)).calls (asked_by (view (seat_of end.seat)))
      (trail_by (view (seat_of end.seat)))

-- a job may be done where the locks have these names: its seat is one of its mirror's lock
pub record CanDo {T S W : Type 0} (game : GameRules W)
    (seat_of : T → Seat S (View (MirrorState W) (LockCall W) (LockReply W))) (names : List TableId)
    (job : JobOver T) : Type 0 where
  pub own : slice_get names job.mirror ≡ Some (seat_of job.seat).table_id
  pub can : CanWork game job.work (seat_of job.seat)
