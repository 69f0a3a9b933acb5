use Rattle.std.proofs.Common.{◌≡◌, ◌≤◌, drop, length}
use Rattle.std.specs.Vec.{vec_capacity, vec_len}
use Rattle.peer_slots.specs.Opened.{all_taken}
use Rattle.peer_slots.proofs.Opens.{IsOpening}
use Rattle.peer_slots.proofs.opened.open_queues.Given as goal

abbrev pub invariant-loop-count : goal.invariant-loop-count
invariant-loop-count l = record {
  opening : IsOpening l.room (all_taken l.room l.have l.fn.queues) l.list.items (drop l.count-index l.have) l.left;
  len : vec_len l.list ≡ l.count-index;
  capacity : length l.have ≤ vec_capacity l.list;
}
