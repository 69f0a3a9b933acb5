use Rattle.std.proofs.Common.{take}
use Rattle.peer_packet.specs.Packet.{counts_bytes}
use Rattle.peer_packet.specs.Putting.{Puts}
use Rattle.peer_packet.proofs.put.put_counts.Given as goal

abbrev pub invariant-loop-count : goal.invariant-loop-count
invariant-loop-count l = Puts l.fn.out l.out l.at l.place (counts_bytes (take l.count-index l.have))
