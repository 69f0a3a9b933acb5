use Rattle.std.proofs.Common.{◌≡◌, ◌+◌, ◌^◌, ◌<◌, ◌≤◌, length, map}
use Rattle.peer_model.specs.Queue.{have_of, last_time}
use Rattle.peer_window.specs.Window.{counts_each}
use Rattle.peer_packet.specs.Packet.{AreSent}
use Rattle.peer_calls.specs.Wire.{sent_from}
use Rattle.peer_calls.specs.Hearing.{tells_each}
use Rattle.peer_queue.proofs.hear.hear_each.Given as goal

abbrev pub invariant-loop-x : goal.invariant-loop-x
invariant-loop-x g l =
    (counts_each l.fn.queue.room l.fn.origin (map sent_from l.left) l.queue.queue l.mirror
    ≡ counts_each l.fn.queue.room l.fn.origin (map sent_from l.fn.commands) l.fn.queue.queue l.fn.mirror)
    × (tells_each l.fn.queue.room l.fn.origin (map sent_from l.left) l.queue.queue l.mirror l.told
    ≡ tells_each l.fn.queue.room l.fn.origin (map sent_from l.fn.commands) l.fn.queue.queue l.fn.mirror l.fn.told)
    × (l.queue.room ≡ l.fn.queue.room)
    × (have_of l.queue.queue + length l.left < 2 ^ 32)
    × AreSent 64 (last_time l.queue.queue.gone l.queue.queue.commands) l.left
    × (l.told.taken + length l.left ≤ l.fn.told.taken + length l.fn.commands)
    × (l.told.late + length l.left ≤ l.fn.told.late + length l.fn.commands)

abbrev pub decreases-loop-x : goal.decreases-loop-x
decreases-loop-x g l = length l.left
