use Rattle.std.proofs.Common.{◌≡◌, drop}
use Rattle.peer_packet.specs.Reading.{behind}
use Rattle.peer_packet.specs.Snapshot.{issued, queues_at}
use Rattle.peer_packet.proofs.snapshot.pass_queues.Given as goal

abbrev pub invariant-loop-count : goal.invariant-loop-count
invariant-loop-count l = behind (queues_at l.payload l.base (issued (drop l.count-index l.have)) l.rest) ≡ behind (queues_at l.payload l.base (issued l.have) l.bytes)
