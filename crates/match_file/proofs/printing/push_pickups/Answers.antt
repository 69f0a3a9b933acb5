use Rattle.match_file.specs.Text.{pickup_line}
use Rattle.tss_io.proofs.Printing.{lines_next}
use Rattle.match_file.proofs.printing.push_pickups.Goals as goal

pub loop-pickup-preserved : goal.loop-pickup-preserved
loop-pickup-preserved c = lines_next pickup_line c.args.pickups.now c.loop-pickup.pickup-index _ _ _ _ c.loop-pickup-test.true c.loop-pickup.invariant c.in_ok-push_pickup.ensures
