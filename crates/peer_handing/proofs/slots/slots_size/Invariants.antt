use Rattle.std.proofs.Common.{◌≡◌, ◌+◌, ◌*◌, ◌≤◌, length}
use Rattle.peer_packet.specs.Packet.{counts_bytes}
use Rattle.peer_calls.specs.Sending.{counts_of}
use Rattle.peer_slots.specs.Queues.{queues_of}
use Rattle.peer_handing.proofs.BySlot.{bytes_to}
use Rattle.peer_handing.proofs.slots.slots_size.Given as goal

abbrev pub invariant-loop-slot : goal.invariant-loop-slot
invariant-loop-slot l = record {
  size : l.size ≡ length (counts_bytes (counts_of l.slot (queues_of l.queues).queues)) + length (bytes_to l.fn.from (queues_of l.queues).queues l.slot);
  most : l.size ≤ 67108863 * l.slot;
}
