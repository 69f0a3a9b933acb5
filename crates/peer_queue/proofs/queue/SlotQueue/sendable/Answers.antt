use Rattle.std.proofs.Common.{arith}
use Rattle.peer_queue.proofs.Dues.{passed-few}
use Rattle.peer_queue.proofs.queue.SlotQueue.sendable.Goals as goal

pub returns-else-is_own-clause-few : goal.returns-else-is_own-clause-few
returns-else-is_own-clause-few c = (let most = passed-few c.args.relay c.args.clock c.args.self.now.queue.commands in let e = c.passed_on.ensures in omega arith)
