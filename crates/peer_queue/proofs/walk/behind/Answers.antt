use Rattle.peer_queue.proofs.Walks.{next-rest, behind-on}
use Rattle.peer_queue.proofs.walk.behind.Goals as goal

pub loop-preserved : goal.loop-preserved
loop-preserved c = (
  behind-on c.loop.commands c.next-passed.new.self _ c.min-end.result c.loop.counter c.loop-test.true (next-rest c.next-passed.result c.loop.commands c.next-passed.new.self c.next-passed.ensures) c.loop.invariant.0,
  c.loop.invariant.1,
)
