use Rattle.std.proofs.Common.{◌∙◌, ap, List, ℕ}
use Rattle.game_trait.specs.NameTree.{has_name}
use Rattle.game_trait.proofs.BlockTrees.{told}
use Rattle.game_trait.proofs.block_tree.BlockTree.find.Goals as goal

pub returns-clause-found : goal.returns-clause-found
returns-clause-found c =
    let tells = told c.deref.result.now c.deref-2.result.now c.args.from c.args.block c.search.result c.search.ensures.found c.search.ensures.free in
    let same = ap (λ (names : List (ℕ × ℕ)). has_name names c.args.from c.args.block) c.deref.ensures.value in
    rw (← c.self.view_is) (c.ok.ensures.variant ∙ tells ∙ same)
