use Rattle.std.proofs.Common.{arith}
use Rattle.std.proofs.lemmas.Grind.{elements}
use Rattle.std.proofs.lemmas.List.Edits.{map_over_more}
use Rattle.match_setup.specs.Setup.{spot_cell}
use Rattle.arena_rules.specs.Kept.{emptied_at}
use Rattle.arena_rules.proofs.pickups.take_each.Goals as goal

pub loop-pickup-preserved : goal.loop-pickup-preserved
loop-pickup-preserved c = rw c.emptied.ensures
    (map_over_more (emptied_at c.args.beats (spot_cell c.args.spot)) c.args.pickups.now c.loop-pickup.pickups
    c.loop-pickup.pickup-index _ c.loop-pickup-test.true c.loop-pickup.invariant (grind (arith, elements)))
