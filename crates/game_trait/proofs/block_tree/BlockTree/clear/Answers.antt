use Rattle.std.proofs.Common.{arith}
use Rattle.std.specs.Prelude.{vec_capacity}
use Rattle.game_trait.proofs.BlockTrees.{tree-cleared}
use Rattle.game_trait.proofs.block_tree.BlockTree.clear.Goals as goal

pub invariant_of-self : goal.invariant_of-self
invariant_of-self c =
    let inside = c.self.inside in
    rw (c.clear.ensures.items, c.clear.ensures.capacity, c.clear_links.ensures.capacity) (
      tree-cleared inside.blocks.items inside.links.items _ (vec_capacity inside.links) inside.room
          c.self.invariant.0 c.clear_links.ensures.none c.clear_links.ensures.roots,
      c.self.invariant.1,
      c.self.invariant.2,
    )
