use Rattle.std.proofs.Common.{arith}
use Rattle.std.proofs.lemmas.Grind.{elements}
use Rattle.std.proofs.lemmas.List.Edits.{map_over_more}
use Rattle.arena_rules.specs.Kept.{counted_anew}
use Rattle.arena_rules.proofs.pickups.count_anew.Goals as goal

pub loop-pickup-preserved : goal.loop-pickup-preserved
loop-pickup-preserved c = rw c.counted_anew.ensures
    (map_over_more (counted_anew c.args.beats) c.args.pickups.now c.loop-pickup.pickups c.loop-pickup.pickup-index _
    c.loop-pickup-test.true c.loop-pickup.invariant (grind (arith, elements)))
