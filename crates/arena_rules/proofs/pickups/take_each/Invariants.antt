use Rattle.std.proofs.Common.{◌≡◌, ◌++◌, map, take, drop}
use Rattle.match_setup.specs.Setup.{spot_cell}
use Rattle.arena_rules.specs.Kept.{emptied_at}
use Rattle.arena_rules.proofs.pickups.take_each.Given as goal

abbrev pub invariant-loop-pickup : goal.invariant-loop-pickup
invariant-loop-pickup l = l.pickups ≡ map (emptied_at l.beats (spot_cell l.spot)) (take l.pickup-index l.fn.pickups) ++ drop l.pickup-index l.fn.pickups
