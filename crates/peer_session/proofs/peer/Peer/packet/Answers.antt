use Rattle.std.proofs.Common.{◌≡◌, length, take}
use Rattle.peer_calls.specs.Sending.{packet_bytes, packet_for}
use Rattle.peer_sending.specs.Sending.{state_of}
use Rattle.peer_slots.specs.Links.{links_of}
use Rattle.peer_slots.specs.Queues.{queues_of}
use Rattle.peer_session.proofs.Made.{made-at, made-packet}
use Rattle.peer_session.proofs.peer.Peer.packet.Goals as goal

pub returns-clause-answer : goal.returns-clause-answer
returns-clause-answer g c = rw (← c.self.view_is) (c.put_packet.ensures.answer c.self.inside.start)

pub returns-clause-bytes : goal.returns-clause-bytes
returns-clause-bytes g c =
    let i = c.self.inside in
    rw (← c.self.view_is) (made-at c.put_packet.result
    (λ start size. take size c.put_packet.new.out ≡ packet_bytes i.config c.args.to (length c.args.out.now) (state_of i.me start (queues_of i.queues) (links_of i.links) i.mirror))
    i.start c.put_packet.ensures.bytes)

pub returns-clause-packet : goal.returns-clause-packet
returns-clause-packet g c =
    let i = c.self.inside in
    rw (← c.self.view_is) (made-packet c.put_packet.result i.config.terms (queues_of i.queues)
    (λ start. packet_for i.config c.args.to (length c.args.out.now) (state_of i.me start (queues_of i.queues) (links_of i.links) i.mirror))
    i.start c.self.invariant.terms c.self.invariant.short c.put_packet.ensures.packet)
