use Rattle.std.proofs.Common.{refl, inl, arith}
use Rattle.game_trait.proofs.block_tree.BlockTree.new.Goals as goal

pub invariant_of-result : goal.invariant_of-result
invariant_of-result c =
    rw (c.new.ensures.items, c.new-2.ensures.items) (inl (refl, (refl, refl)), omega arith, omega arith)
