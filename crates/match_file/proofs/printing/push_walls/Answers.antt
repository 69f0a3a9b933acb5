use Rattle.match_file.proofs.PrintLaws.{walls_next}
use Rattle.match_file.proofs.printing.push_walls.Goals as goal

pub loop-y-preserved : goal.loop-y-preserved
loop-y-preserved c = walls_next c.args.ground.now c.args.ground.now.width c.loop-y.y _ _ _ c.loop-y.invariant c.in_ok-push_row.ensures
