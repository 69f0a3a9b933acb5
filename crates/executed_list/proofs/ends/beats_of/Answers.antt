use Rattle.std.proofs.Common.{arith, refl}
use Rattle.game_trait.specs.Run.{beats}
use Rattle.executed_list.proofs.Lists.{beats-more}
use Rattle.executed_list.proofs.ends.beats_of.Goals as goal

pub loop-item-init : goal.loop-item-init
unfolding beats
loop-item-init c = (refl, omega arith)

pub loop-item-preserved : goal.loop-item-preserved
loop-item-preserved c = (
  beats-more c.args.items.now c.loop-item.item-index _ _ _ c.loop-item-test.true
      c.loop-item.invariant.0 c.beats_in-n.ensures.count,
  omega arith,
)
