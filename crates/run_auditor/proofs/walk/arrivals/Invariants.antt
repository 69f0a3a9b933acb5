use Rattle.std.proofs.Common.{◌≡◌, ◌+◌, ◌≤◌, drop}
use Rattle.game_trait.specs.Count.{times}
use Rattle.game_trait.specs.Events.{is_arrival}
use Rattle.run_auditor.proofs.walk.arrivals.Given as goal

abbrev pub invariant-loop-event : goal.invariant-loop-event
invariant-loop-event l = record {
  counted : l.count + times is_arrival (drop l.event-index l.events) ≡ times is_arrival l.events;
  few : l.count ≤ l.event-index;
}
