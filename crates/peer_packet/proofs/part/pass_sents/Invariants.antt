use Rattle.std.proofs.Common.{◌≡◌, ◌-◌}
use Rattle.peer_packet.specs.Reading.{behind, sents_at}
use Rattle.peer_packet.proofs.part.pass_sents.Given as goal

abbrev pub invariant-loop : goal.invariant-loop
invariant-loop l = behind (sents_at l.payload (l.count - l.counter) l.last l.rest) ≡ behind (sents_at l.payload l.count l.before l.bytes)
