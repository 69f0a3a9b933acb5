use Rattle.match_file.proofs.PrintLaws.{row_next}
use Rattle.match_file.proofs.printing.push_row.Goals as goal

pub loop-x-preserved : goal.loop-x-preserved
loop-x-preserved c = row_next c.args.ground.now c.args.y c.loop-x.x _ _ _ c.loop-x.invariant c.in_ok-push_wall.ensures
