use Rattle.std.proofs.Common.{arith}
use Rattle.game_trait.proofs.NameTrees.{none-in_blocks}
use Rattle.game_trait.proofs.name_tree.NameTree.with_room.Goals as goal

pub invariant_of-result : goal.invariant_of-result
invariant_of-result c =
    let places = c.in_ok-with_capacity.ensures.capacity in
    rw (c.in_ok-with_capacity.ensures.items, c.in_ok-with_room.ensures) (
      none-in_blocks,
      record {
        in_blocks = omega arith;
        in_places = omega arith;
        first_in_blocks = omega arith;
        first_in_places = omega arith;
      },
      (omega arith, omega arith),
    )
