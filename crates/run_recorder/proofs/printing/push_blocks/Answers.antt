use Rattle.std.proofs.Common.{ap, ◌∙◌, List, ℕ, ◌++◌}
use Rattle.run_recorder.proofs.PrintLaws.{blocks_none, blocks_next}
use Rattle.run_recorder.proofs.printing.push_blocks.Goals as goal

pub loop-block-init : goal.loop-block-init
loop-block-init c = blocks_none c.args.out.now.items

pub loop-block-preserved : goal.loop-block-preserved
loop-block-preserved c = blocks_next c.args.blocks.now c.loop-block.block-index _ _ _ _ c.loop-block-test.true
    c.loop-block.invariant (c.in_ok-push_block.ensures
    ∙ ap (λ (b : List ℕ). c.loop-block.out.items ++ b) c.block-item.is)
