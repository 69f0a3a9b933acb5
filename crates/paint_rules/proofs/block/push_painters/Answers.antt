use Rattle.paint_rules.proofs.Lines.{no_painter_lines, painter_lines-next}
use Rattle.paint_rules.proofs.block.push_painters.Goals as goal

pub loop-number-init : goal.loop-number-init
loop-number-init c = no_painter_lines _ _ _

pub loop-number-preserved : goal.loop-number-preserved
loop-number-preserved c = painter_lines-next _ _ _ c.loop-number.number _ _ _ _ c.loop-number-test.true
    c.loop-number.invariant (rw (c.printed_name-name.ensures, c.owned.ensures.count) at c.in_ok-push_painter.ensures.ok)
