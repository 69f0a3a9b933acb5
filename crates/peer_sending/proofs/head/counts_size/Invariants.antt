use Rattle.std.proofs.Common.{◌≡◌, ◌≤◌, ◌*◌, take, length}
use Rattle.peer_packet.specs.Packet.{counts_bytes}
use Rattle.peer_sending.proofs.head.counts_size.Given as goal

abbrev pub invariant-loop-count : goal.invariant-loop-count
invariant-loop-count l = record {
  size : l.size ≡ length (counts_bytes (take l.count-index l.have));
  most : l.size ≤ 4 * l.count-index;
}
