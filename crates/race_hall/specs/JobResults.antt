-- What the caller of a race holds after the joins: what the feeders gave back, the locks'
-- histories, and the links.
use Rattle.std.specs.Prelude.{◌≡◌, ◌≢◌, ℕ, ◌<◌, List, [], ◌∷◌, ◌++◌}
use Rattle.std.specs.List.{AllByRecursion, AllZip}
use Rattle.link_ring.specs.declared.message.Message.{Message}
use Rattle.link_ring.specs.declared.send.LinkSend.{LinkSend}
use Rattle.link_ring.specs.declared.receive.LinkReceive.{LinkReceive}
use Rattle.link_ring.specs.Ends.{sent_of, received_of}
use Rattle.sync_model.specs.State.{MirrorState}
use Rattle.sync_model.specs.Change.{after}
use Rattle.copy_workers.specs.declared.post.Asked.{Asked}
use Rattle.copy_workers.specs.declared.feeder_job.FeederEnd.{FeederEnd}
use Rattle.copy_workers.specs.declared.feeder_job.FeederJob.{FeederJob}
use Rattle.copy_workers.specs.Fed.{FeederEnds}
use Rattle.race_hall.specs.Entries.{Entry, pairs_of, own, events_asked, AreAnswersOf, IsStepping}
use Rattle.race_hall.specs.Race.{Course, plan_of, foreign_of, others, race_opening}

-- a job of a race's feeder: its plan, the match's numbers, and links that are new
pub record IsJobOf (c : Course) (m : ℕ) (job : FeederJob) : Type 0 where
  pub plan : job.plan.items ≡ plan_of c m
  pub length : job.stagger.length ≡ c.length
  pub pace : job.pace ≡ c.pace
  pub foreign : job.foreign ≡ foreign_of c m
  pub sends : AllByRecursion (λ s. sent_of s ≡ []) job.sends.items
  pub receives : AllByRecursion (λ r. received_of r ≡ []) job.receives.items

-- the end stands among the ends
pub record IsAmong {X : Type 0} (x : X) (xs : List X) : Type 0 where
  pub front : List X
  pub back : List X
  pub parts : xs ≡ front ++ x ∷ back

-- what was received on this end, and what is left, is what was sent on one of those
pub record IsLeftOf (sends : List LinkSend) (r : LinkReceive) (left : List Message) : Type 0 where
  pub send : LinkSend
  pub among : IsAmong send sends
  pub whole : received_of r ++ left ≡ sent_of send

-- a feeder did its job, and this is what it asked
pub record Fed (c : Course) (m : ℕ) (job : FeederJob) (end : FeederEnd)
    (asked : List Asked) : Type 0 where
  pub of : IsJobOf c m job
  pub ends : FeederEnds job end [] asked

-- a lock was closed: its history, the seat of the feeder, the state that it gave back
pub record Closed {W : Type 0} (c : Course) (opening : W) (spare seat : ℕ) (history : List Entry)
    (s : MirrorState W) : Type 0 where
  pub sound : AreAnswersOf (race_opening c opening spare) (pairs_of history)
  pub state : s ≡ after (race_opening c opening spare) (events_asked (pairs_of history))
  pub workers : (i : ℕ) → i ≢ seat → AllByRecursion (λ p. IsStepping p.event) (own i history)

-- all feeders of a race
abbrev pub AllFed : Course → (ℕ → FeederJob) → (ℕ → FeederEnd) → (ℕ → ℕ) → (ℕ → List Entry) → Type 0
AllFed c job end seat history = (k : ℕ) → k < c.mirrors
    → Fed c k (job k) (end k) (own (seat k) (history k))

-- what is left in the links to mirror m
abbrev pub IsLeftAt : Course → (ℕ → FeederEnd) → ℕ → (ℕ → List Message) → Type 0
IsLeftAt c end m left =
    AllZip (λ k r. IsLeftOf (end k).sends.items r (left k)) (others c.mirrors m)
    (end m).receives.items
