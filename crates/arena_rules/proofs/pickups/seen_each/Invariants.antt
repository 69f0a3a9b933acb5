use Rattle.std.proofs.Common.{◌≡◌, map, take}
use Rattle.arena_rules.specs.Kept.{seen_at}
use Rattle.arena_rules.proofs.pickups.seen_each.Given as goal

abbrev pub invariant-loop-pickup : goal.invariant-loop-pickup
invariant-loop-pickup l = l.seen.items ≡ map (seen_at l.beats) (take l.pickup-index l.pickups)
