use Rattle.std.proofs.Common.{arith}
use Rattle.game_trait.proofs.NameTrees.{none-in_blocks}
use Rattle.game_trait.proofs.name_tree.NameTree.new.Goals as goal

pub invariant_of-result : goal.invariant_of-result
invariant_of-result c =
    rw (c.new.ensures, c.new-2.ensures.items) (
      none-in_blocks,
      record {
        in_blocks = omega arith;
        in_places = omega arith;
        first_in_blocks = omega arith;
        first_in_places = omega arith;
      },
      (omega arith, omega arith),
    )
