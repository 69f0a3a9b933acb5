use Rattle.std.proofs.Common.{◌-◌, arith}
use Rattle.std.specs.Prelude.{slice_index}
use Rattle.game_trait.proofs.BlockTrees.{stands-at, stands-elsewhere}
use Rattle.game_trait.proofs.BlockWalks.{link-there, search-next, search-last}
use Rattle.game_trait.proofs.block_tree.search.Goals as goal

pub returns-then-links-link-eq0-clause-free : goal.returns-then-links-link-eq0-clause-free
returns-then-links-link-eq0-clause-free c = search-last c.requires c.steps.invariant c.if-links-link-eq0.true

pub returns-then-eq-clause-found : goal.returns-then-eq-clause-found
returns-then-eq-clause-found c =
    let there = link-there c.requires c.steps.link (let some = c.if-links-link-eq0.false in omega arith) in
    stands-at c.args.blocks.now c.args.from c.args.block (slice_index c.args.links.now c.steps.link - 1) there c.if-eq.ensures

pub steps-preserved : goal.steps-preserved
steps-preserved c =
    let some = c.if-links-link-eq0.false in
    let there = link-there c.requires c.steps.link (omega arith) in
    search-next c.requires c.steps.invariant (omega arith)
    (stands-elsewhere c.args.blocks.now c.args.from c.args.block (slice_index c.args.links.now c.steps.link - 1) there c.if-eq.ensures)
