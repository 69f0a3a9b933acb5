use Rattle.std.proofs.Common.{◌≡◌, ◌≤◌, replicate}
use Rattle.std.specs.Vec.{vec_capacity, vec_len}
use Rattle.peer_slots.specs.Queues.{empty_queue}
use Rattle.peer_slots.proofs.queues.make_queues.Given as goal

abbrev pub invariant-loop : goal.invariant-loop
invariant-loop l = record {
  items : l.queues.items ≡ replicate l.counter (empty_queue l.room);
  len : vec_len l.queues ≡ l.counter;
  capacity : l.slots ≤ vec_capacity l.queues;
}
