-- Walking along a log: each of its events is made on a mirror, up to the first that changes
-- nothing.
use Rattle.std.specs.Prelude.{◌≡◌, ℕ, ◌+◌, ◌≤◌, ◌++◌, List, [], ◌∷◌, length, Option, Some, None}
use Rattle.std.specs.List.{AllByRecursion}
use Rattle.game_trait.specs.declared.event.Event.{Event}
use Rattle.game_trait.specs.declared.event.Reply.{Reply}
use Rattle.game_trait.specs.declared.event.Reply.TheVariants.{Tick as ToTick, Arrive as ToArrive, Step as ToStep, Restaggered}
use Rattle.game_trait.specs.declared.event.Ticked.TheVariants.{Moved, Over}
use Rattle.game_trait.specs.declared.event.Arrived.TheVariants.{Taken, Repeat, Late}
use Rattle.game_trait.specs.declared.event.Stepped.TheVariants.{Ran, Idle}
use Rattle.game_trait.specs.declared.limits.TheConstants.{MOST_ROOM}
use Rattle.game_trait.specs.Count.{times}
use Rattle.game_trait.specs.Events.{is_arrival, is_restagger}
use Rattle.sync_model.specs.State.{MirrorState, opening_state}
use Rattle.sync_model.specs.Change.{next, said, Fits}
use Rattle.sync_model.specs.History.{first_state}
use Rattle.match_data.specs.Data.{MatchData, all_plans}
use Rattle.run_auditor.specs.declared.why.Fault.{Fault}
use Rattle.run_auditor.specs.declared.why.Why.{Why}
use Rattle.run_auditor.specs.declared.why.Why.TheVariants as whys
use Rattle.run_auditor.specs.declared.walk.Walked.{Walked}
use Rattle.run_auditor.specs.declared.walk.Walked.TheVariants.{Note, End, Stuck}

-- why an answer tells of no change, where it does
abbrev pub why_of : Reply → Option Why
why_of (ToTick Moved) = None
why_of (ToTick Over) = Some whys.Over
why_of (ToArrive (Taken repaired)) = None
why_of (ToArrive Repeat) = Some whys.Repeat
why_of (ToArrive (Late bound)) = None
why_of (ToStep (Ran repaired)) = None
why_of (ToStep Idle) = Some whys.Idle
why_of Restaggered = None

-- a walk: whose log it is, the mirror, whose history is what was made of the log, and the events
-- that are left
pub record LogWalk (W : Type 0) : Type 0 where
  pub number : ℕ
  pub mirror : MirrorState W
  pub left : List Event

-- what the walk tells of the next event
abbrev pub told_of_event : {W : Type 0} → LogWalk W → Event → Option Why → Walked
told_of_event w e None = Note (record { mirror = w.number; event = e; reply = said w.mirror e })
told_of_event w e (Some why) = Stuck (length w.mirror.history) why

-- what it tells of these events, of which the first is the next
abbrev pub told_next : {W : Type 0} → LogWalk W → List Event → Walked
told_next w [] = End
told_next w (e ∷ es) = told_of_event w e (why_of (said w.mirror e))

-- the walk after the next event, where that changes the mirror
abbrev pub moved : {W : Type 0} → LogWalk W → Event → List Event → Option Why → LogWalk W
moved w e es None = record w { mirror = next w.mirror e; left = es }
moved w e es (Some why) = w

-- the walk once it went on along these
abbrev pub moved_on : {W : Type 0} → LogWalk W → List Event → LogWalk W
moved_on w [] = w
moved_on w (e ∷ es) = moved w e es (why_of (said w.mirror e))

-- a walk that begins: a mirror of the match before any event, with room for the log
abbrev pub walk_of : {W : Type 0} → W → MatchData → ℕ → List Event → LogWalk W
walk_of opening m number log = record {
  number = number;
  mirror = opening_state opening m.length (all_plans m) (times is_arrival log)
      (times is_restagger log);
  left = log;
}

-- there is room on the mirror for the events that are left, and they fit it
pub record IsWalk {W : Type 0} (s : MirrorState W) (left : List Event) : Type 0 where
  pub spare : s.spare ≡ times is_arrival left
  pub plan_spare : s.plan_spare ≡ times is_restagger left
  pub fits : AllByRecursion (Fits s) left
  pub few : length s.history + length left ≤ MOST_ROOM

-- a walk that went on along its log, on its mirror
pub record WentOn {W : Type 0} (w v : LogWalk W) : Type 0 where
  pub number : v.number ≡ w.number
  pub begun : first_state v.mirror ≡ first_state w.mirror
  pub log : v.mirror.history ++ v.left ≡ w.mirror.history ++ w.left

-- where a walk stopped: behind the log, or at an event that changes nothing
abbrev pub Stopped : {W : Type 0} → LogWalk W → Option Fault → Type 0
Stopped w None = w.left ≡ []
Stopped w (Some fault) =
    (e : Event) × (rest : List Event) × (w.left ≡ e ∷ rest)
    × (fault.place ≡ length w.mirror.history) × (why_of (said w.mirror e) ≡ Some fault.why)
