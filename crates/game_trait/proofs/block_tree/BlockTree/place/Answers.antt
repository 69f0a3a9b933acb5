use Rattle.std.proofs.Common.{◌≡◌, ◌∙◌, length, inr, arith}
use Rattle.std.specs.Prelude.{vec_capacity}
use Rattle.game_trait.proofs.BlockTrees.{tree-there, tree-push}
use Rattle.game_trait.proofs.block_tree.BlockTree.place.Goals as goal

pub invariant_of-self : goal.invariant_of-self
invariant_of-self c =
    let inside = c.self.inside in
    let more = rw (← c.self.view_is) at c.requires in
    let tree = tree-there inside.blocks.items inside.links.items (vec_capacity inside.links) inside.room c.self.invariant.0 more in
    let entries = tree.1 in
    let blocks = c.self.invariant.1 in
    let room = c.self.invariant.2 in
    let longer = c.link_to.ensures.capacity in
    let count : c.len-at.result ≡ length inside.blocks.items = (let ok = inside.blocks.ok.0 in c.len-at.ensures ∙ omega arith) in
    let free = rw (c.deref.ensures.value, c.deref-2.ensures.value) at c.in-Err.ensures.free in
    rw (c.push_reserved.ensures.items, c.push_reserved.ensures.capacity, c.link_to.ensures.items, count)
    (inr (tree-push tree.0 free, omega arith), omega arith, omega arith)
