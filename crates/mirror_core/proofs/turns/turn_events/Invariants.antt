use Rattle.std.proofs.Common.{◌≡◌, ◌+◌, ◌-◌, ◌++◌, length}
use Rattle.sync_model.specs.Turns.{steps_from, turn_events}
use Rattle.mirror_core.proofs.turns.turn_events.Given as goal

abbrev pub invariant-loop-copy : goal.invariant-loop-copy
invariant-loop-copy l = record {
  count : length l.events.items ≡ l.copy + 1;
  all : l.events.items ++ steps_from l.copy (l.copies - l.copy) ≡ turn_events l.copies;
}
