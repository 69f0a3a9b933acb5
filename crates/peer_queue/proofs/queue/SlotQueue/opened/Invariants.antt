use Rattle.std.proofs.Common.{◌≡◌, ◌-◌, ◌++◌, length, map}
use Rattle.peer_model.specs.Queue.{last_time}
use Rattle.peer_packet.specs.Packet.{AreSent}
use Rattle.peer_calls.specs.Wire.{sent_from}
use Rattle.peer_queue.proofs.queue.SlotQueue.opened.Given as goal

abbrev pub invariant-loop-x : goal.invariant-loop-x
invariant-loop-x l =
    (l.opened.room ≡ l.room)
    × (l.opened.queue.kept ≡ l.have - length l.queue.commands) × (l.opened.queue.gone ≡ l.queue.before) × (l.opened.queue.late ≡ l.queue.late)
    × (l.opened.queue.commands ++ map sent_from l.commands ≡ map sent_from l.queue.commands)
    × AreSent 64 (last_time l.opened.queue.gone l.opened.queue.commands) l.commands

abbrev pub decreases-loop-x : goal.decreases-loop-x
decreases-loop-x l = length l.commands
