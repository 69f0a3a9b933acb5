use Rattle.std.proofs.Common.{◌≡◌, ◌∙◌, length, arith}
use Rattle.std.specs.Prelude.{vec_capacity}
use Rattle.game_trait.proofs.BlockTrees.{tree-reserved}
use Rattle.game_trait.proofs.block_tree.BlockTree.reserve.Goals as goal

pub invariant_of-self-2 : goal.invariant_of-self-2
invariant_of-self-2 c =
    let inside = c.self.inside in
    let links = c.reserve_links.new.links in
    let count : c.len-count.result ≡ length inside.blocks.items = (let ok = inside.blocks.ok.0 in c.len-count.ensures ∙ omega arith) in
    let few = c.if-count-ge-MOST_BLOCKS.false in
    let had = inside.blocks.ok.0 in
    let fits = c.in_ok-reserve.ensures.ok in
    let tree =
    tree-reserved inside.blocks.items inside.links.items links.items (vec_capacity inside.links) (vec_capacity links) inside.room
    c.self.invariant.0 c.in_ok-reserve_links.ensures.roots c.in_ok-reserve_links.ensures.links (let fit = c.in_ok-reserve_links.ensures.room in omega arith) in
    let long = c.reserve.ensures.len in
    rw (c.reserve.ensures.items, count) (tree, omega arith, omega arith)
