use Rattle.paint_rules.specs.Block.{row_line}
use Rattle.paint_rules.proofs.Lines.{no_row_lines, row_lines-next}
use Rattle.paint_rules.proofs.block.push_rows.Goals as goal

pub loop-y-init : goal.loop-y-init
loop-y-init c = no_row_lines (row_line c.args.ground.now c.args.cells.now) _

pub loop-y-preserved : goal.loop-y-preserved
loop-y-preserved c = row_lines-next _ c.loop-y.y _ _ _ c.loop-y.invariant c.in_ok-push_row.ensures.ok
