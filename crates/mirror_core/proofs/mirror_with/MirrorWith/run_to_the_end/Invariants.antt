use Rattle.std.proofs.Common.{◌≡◌, ◌-◌}
use Rattle.sync_model.specs.Turns.{drain_within}
use Rattle.mirror_core.proofs.mirror_with.MirrorWith.run_to_the_end.Given as goal

abbrev pub invariant-loop : goal.invariant-loop
invariant-loop g l = drain_within (l.turns - l.counter) l.self ≡ drain_within l.turns l.fn.self
