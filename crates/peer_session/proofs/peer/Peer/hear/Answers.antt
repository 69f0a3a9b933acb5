use Rattle.std.proofs.Common.{◌≡◌, Err, sym, subst}
use Rattle.peer_packet.specs.Reading.{packet_at}
use Rattle.peer_session.specs.Parts.{PeerParts}
use Rattle.peer_session.proofs.Faults.{no-packet}
use Rattle.peer_session.proofs.peer.Peer.hear.Goals as goal

pub returns-in-Ok-clause-fault : goal.returns-in-Ok-clause-fault
returns-in-Ok-clause-fault g c = λ fault refused.
    let here = subst (λ (p : PeerParts _). packet_at p.config.terms c.args.bytes.now ≡ Err fault) (sym c.self.view_is) refused in
    absurd (no-packet c.self.inside.config.terms c.args.bytes.now c.in-Ok.packet fault c.self.invariant.terms c.in-Ok.ensures.found.0 c.in-Ok.ensures.found.1 here)
