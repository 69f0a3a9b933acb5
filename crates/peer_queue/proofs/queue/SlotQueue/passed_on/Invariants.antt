use Rattle.std.proofs.Common.{◌≡◌, ◌-◌, ◌≤◌, take, drop, length}
use Rattle.peer_queue.proofs.Dues.{passed_on}
use Rattle.peer_queue.proofs.queue.SlotQueue.passed_on.Given as goal

abbrev pub invariant-loop-low : goal.invariant-loop-low
invariant-loop-low l =
    (l.low ≤ l.high) × (l.high ≤ length l.self.queue.commands)
    × (passed_on l.relay l.clock (take l.low l.self.queue.commands) ≡ l.low)
    × (passed_on l.relay l.clock (drop l.high l.self.queue.commands) ≡ 0)

abbrev pub decreases-loop-low : goal.decreases-loop-low
decreases-loop-low l = l.high - l.low
