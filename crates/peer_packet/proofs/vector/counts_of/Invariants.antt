use Rattle.std.proofs.Common.{◌≡◌, ◌-◌}
use Rattle.arrayvec.specs.ArrayVec.{array_vec_len}
use Rattle.peer_packet.specs.Reading.{counts_at}
use Rattle.peer_packet.proofs.LoopLaws.{with_front}
use Rattle.peer_packet.proofs.vector.counts_of.Given as goal

abbrev pub invariant-loop : goal.invariant-loop
invariant-loop l = record {
  read : with_front l.counts.items (counts_at (l.slots - l.counter) l.left l.rest) ≡ counts_at l.slots l.mask l.bytes;
  len : array_vec_len l.counts ≡ l.counter;
}
