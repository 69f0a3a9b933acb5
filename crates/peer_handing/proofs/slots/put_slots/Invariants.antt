use Rattle.peer_packet.specs.Putting.{Puts}
use Rattle.peer_slots.specs.Queues.{queues_of}
use Rattle.peer_handing.proofs.BySlot.{bytes_to}
use Rattle.peer_handing.proofs.slots.put_slots.Given as goal

abbrev pub invariant-loop-slot : goal.invariant-loop-slot
invariant-loop-slot l = Puts l.fn.out l.out l.at l.behind (bytes_to l.fn.from (queues_of l.queues).queues l.slot)
