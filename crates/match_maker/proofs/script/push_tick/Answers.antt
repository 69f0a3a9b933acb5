use Rattle.match_maker.proofs.Lists.{joined_none, joined_next, joined_first}
use Rattle.match_maker.proofs.script.push_tick.Goals as goal

pub loop-mirror-init : goal.loop-mirror-init
loop-mirror-init c = joined_first _ 0 c.args.script.now (joined_none _)

pub loop-mirror-preserved : goal.loop-mirror-preserved
loop-mirror-preserved c = joined_next _ c.loop-mirror.mirror _ _ _ c.loop-mirror.invariant c.in_ok-push_mirror.ensures
