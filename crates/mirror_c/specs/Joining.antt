-- The mirror of a host that joins late, and what it comes to.
use Rattle.std.specs.Prelude.{◌≡◌, ℕ, List, ◌++◌, map}
use Rattle.std.specs.List.{AllByRecursion}
use Rattle.game_trait.specs.declared.event.Event.{Event}
use Rattle.game_trait.specs.Game.{Rules}
use Rattle.game_trait.specs.Run.{world_of}
use Rattle.game_trait.specs.Ordered.{time_ordered}
use Rattle.sync_model.specs.Schedule.{Schedule}
use Rattle.sync_model.specs.State.{MirrorState}
use Rattle.sync_model.specs.Change.{after}
use Rattle.late_joiner.specs.declared.handed.Snapshot.{Snapshot}
use Rattle.game_trait.specs.Later.{later}
use Rattle.game_trait.specs.Shifted.{ShiftedWorld, shifted}
use Rattle.late_joiner.specs.Joiner.{JoinerState, opened}

-- a mirror of the ticks that are left, opened from a snapshot, after events
abbrev pub joined_after : {W : Type 0} → Snapshot W → List Schedule → ℕ → ℕ → List Event → JoinerState W
joined_after snap plans room restaggers es =
    let start = opened snap plans room restaggers in
    record start { inner = after start.inner es }

-- each copy's world, which began as the snapshot's, is the time-ordered execution of the whole match: of
-- what had passed, and of what was accepted, at its own times
abbrev pub EndsInOrder : {W : Type 0} → Rules W → Snapshot W → ℕ → MirrorState (ShiftedWorld W) → Type 0
EndsInOrder rules snap ticks s =
    AllByRecursion (λ run. (world_of (shifted rules) s.opening run).world
    ≡ time_ordered rules snap.opening (snap.passed ++ map (later snap.clock) s.accepted) ticks) s.runs
