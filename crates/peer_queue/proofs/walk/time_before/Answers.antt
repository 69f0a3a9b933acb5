use Rattle.peer_queue.proofs.Walks.{time-on, time-done}
use Rattle.peer_queue.proofs.walk.time_before.Goals as goal

pub loop-preserved : goal.loop-preserved
loop-preserved c = time-on c.loop.last c.pass-last.result c.args.count c.loop.counter c.loop.commands c.pass-last.new.commands _ c.loop-test.true c.pass-last.ensures.time c.pass-last.ensures.rest c.loop.invariant

pub returns : goal.returns
returns c = time-done c.loop.last c.args.count c.loop.counter _ c.loop.commands c.loop-test.false c.loop.invariant
