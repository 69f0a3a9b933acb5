use Rattle.std.proofs.Common.{◌≡◌, length}
use Rattle.peer_model.specs.Queue.{trimmed}
use Rattle.peer_queue.proofs.queue.SlotQueue.trim.Given as goal

abbrev pub invariant-loop-time : goal.invariant-loop-time
invariant-loop-time l =
    (trimmed l.bound l.self.queue ≡ trimmed l.fn.bound l.fn.self.queue) × (l.self.room ≡ l.fn.self.room)

abbrev pub decreases-loop-time : goal.decreases-loop-time
decreases-loop-time l = length l.self.queue.commands
