use Rattle.host_parts.proofs.Made.{equal-ticks, equal-copies}
use Rattle.mirror_c.proofs.engine.Engine.new.Goals as goal

pub new-requires-clause-equal_ticks : goal.new-requires-clause-equal_ticks
new-requires-clause-equal_ticks c =
    equal-ticks c.args.delays.now c.args.copies c.args.length c.in-Some.plans c.as_slice.result.now c.in-Some.ensures.made.0 c.in-Some.ensures.made.1.1 c.as_slice.ensures

pub new-requires-clause-equal_copies : goal.new-requires-clause-equal_copies
new-requires-clause-equal_copies c =
    equal-copies c.args.delays.now c.args.copies c.args.length c.in-Some.plans c.as_slice.result.now c.in-Some.ensures.made.0 c.in-Some.ensures.made.1.0 c.as_slice.ensures
