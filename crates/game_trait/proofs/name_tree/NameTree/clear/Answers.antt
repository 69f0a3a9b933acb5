use Rattle.std.proofs.Common.{arith}
use Rattle.game_trait.proofs.NameTrees.{none-in_blocks}
use Rattle.game_trait.proofs.name_tree.NameTree.clear.Goals as goal

pub invariant_of-self : goal.invariant_of-self
invariant_of-self c =
    let first_in_blocks = c.self.invariant.1.first_in_blocks in
    let first_in_places = c.self.invariant.1.first_in_places in
    let capacity = c.clear-2.ensures.capacity in
    rw (c.clear.ensures, c.clear-2.ensures.items) (
      none-in_blocks,
      record {
        in_blocks = omega arith;
        in_places = omega arith;
        first_in_blocks = omega arith;
        first_in_places = omega arith;
      },
      (c.self.invariant.2.1, c.self.invariant.2.1),
    )
