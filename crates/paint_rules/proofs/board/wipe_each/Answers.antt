use Rattle.std.proofs.Common.{◌∙◌, sym, arith}
use Rattle.paint_rules.proofs.Steps.{wiped-next, wiped-all}
use Rattle.paint_rules.proofs.board.wipe_each.Goals as goal

pub loop-pickup-preserved : goal.loop-pickup-preserved
loop-pickup-preserved c = rw c.paint.ensures (c.loop-pickup.invariant ∙ wiped-next c.args.pickups.now c.loop-pickup.pickup-index _ c.loop-pickup.cells c.loop-pickup-test.true)

pub returns : goal.returns
returns c = sym (c.loop-pickup.invariant ∙ wiped-all c.args.pickups.now c.loop-pickup.pickup-index c.loop-pickup.cells (omega arith))
