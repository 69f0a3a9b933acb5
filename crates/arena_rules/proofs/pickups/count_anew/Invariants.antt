use Rattle.std.proofs.Common.{◌≡◌, ◌++◌, map, take, drop}
use Rattle.arena_rules.specs.Kept.{counted_anew}
use Rattle.arena_rules.proofs.pickups.count_anew.Given as goal

abbrev pub invariant-loop-pickup : goal.invariant-loop-pickup
invariant-loop-pickup l = l.pickups ≡ map (counted_anew l.beats) (take l.pickup-index l.fn.pickups) ++ drop l.pickup-index l.fn.pickups
