use Rattle.std.proofs.Common.{◌≡◌, ◌≤◌, length}
use Rattle.std.specs.Vec.{vec_capacity, vec_len}
use Rattle.peer_calls.specs.Handing.{arriving}
use Rattle.peer_slots.specs.Queues.{queues_of}
use Rattle.peer_opening.proofs.arriving.arriving.Given as goal

abbrev pub invariant-loop-slot : goal.invariant-loop-slot
invariant-loop-slot l = record {
  items : l.list.items ≡ arriving l.slot (queues_of l.queues).queues;
  len : vec_len l.list ≡ length (arriving l.slot (queues_of l.queues).queues);
  capacity : length (arriving (queues_of l.queues).slots (queues_of l.queues).queues) ≤ vec_capacity l.list;
}
