use Rattle.std.proofs.Common.{◌≡◌, ◌++◌, flat_map, take}
use Rattle.arena_rules.specs.Block.{item_line}
use Rattle.arena_rules.proofs.block.push_pickups.Given as goal

abbrev pub invariant-loop-pickup : goal.invariant-loop-pickup
invariant-loop-pickup l = l.out.items ≡ l.fn.out.items ++ flat_map item_line (take l.pickup-index l.pickups)
