use Rattle.std.proofs.Common.{ap, List, ℕ, inr, length, arith}
use Rattle.std.proofs.lemmas.List.{length-replicate}
use Rattle.game_trait.proofs.BlockTrees.{tree-roots}
use Rattle.game_trait.proofs.block_tree.BlockTree.with_room.Goals as goal

pub invariant_of-result : goal.invariant_of-result
invariant_of-result c =
    let most = c.if-room-gt-MOST_BLOCKS.false in
    let roots = c.in_ok-reserve_links.ensures.roots (ap (λ (l : List ℕ). length l) c.new-links.ensures.items) in
    let long = length-replicate {A = ℕ} 4096 0 in
    let as_long = ap (λ (l : List ℕ). length l) roots in
    let fits = c.in_ok-reserve_links.ensures.room in
    let blocks = c.in_ok-with_capacity.ensures.capacity in
    rw (c.in_ok-with_capacity.ensures.items, roots) (inr (tree-roots, omega arith), omega arith, omega arith)
