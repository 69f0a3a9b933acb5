use Rattle.std.proofs.Common.{◌∙◌, sym, arith}
use Rattle.paint_rules.proofs.Steps.{settled-next, settled-all}
use Rattle.paint_rules.proofs.painting.settle.Goals as goal

pub loop-number-preserved : goal.loop-number-preserved
loop-number-preserved c = rw c.paint.ensures (c.loop-number.invariant ∙ settled-next c.args.homes.now c.loop-number.number _ c.loop-number.cells c.loop-number-test.true)

pub returns : goal.returns
returns c = sym (c.loop-number.invariant ∙ settled-all c.args.homes.now c.loop-number.number c.loop-number.number c.loop-number.cells (omega arith))
