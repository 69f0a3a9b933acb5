use Rattle.std.proofs.Common.{◌≡◌, ◌++◌, take}
use Rattle.run_recorder.specs.Text.{blocks_text}
use Rattle.run_recorder.proofs.printing.push_blocks.Given as goal

abbrev pub invariant-loop-block : goal.invariant-loop-block
invariant-loop-block l = l.out.items ≡ l.fn.out.items ++ blocks_text (take l.block-index l.blocks)
