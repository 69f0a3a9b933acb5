use Rattle.std.proofs.Common.{◌≡◌, ◌-◌}
use Rattle.peer_packet.specs.Packet.{is_part}
use Rattle.peer_packet.specs.Reading.{ended, parts_at}
use Rattle.peer_packet.proofs.part.pass_parts.Given as goal

abbrev pub invariant-loop : goal.invariant-loop
invariant-loop l =
    ended (parts_at (is_part l.terms.slots l.to l.have.items) l.terms.payload l.least (l.terms.slots - l.counter) l.rest)
    ≡ ended (parts_at (is_part l.terms.slots l.to l.have.items) l.terms.payload 0 l.terms.slots l.bytes)
