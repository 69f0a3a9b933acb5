use Rattle.std.proofs.Common.{◌≡◌, ◌+◌, List, ap, sym, subst, ◌∙◌, map, arith}
use Rattle.peer_calls.specs.Wire.{part_from}
use Rattle.peer_window.specs.Window.{RollPeer, rolls_parts}
use Rattle.peer_packet.specs.Packet as wire
use Rattle.peer_slots.specs.Links.{LinkState, links_of}
use Rattle.peer_slots.specs.Queues.{queues_of, window_at}
use Rattle.peer_session.specs.Parts.{PeerParts, state_of}
use Rattle.peer_session.proofs.Takes.{parts-base, takes-in}
use Rattle.peer_session.proofs.Shorts.{heard-short}
use Rattle.peer_session.proofs.peer.Peer.take_in.Goals as goal

pub invariant_of-self : goal.invariant_of-self
invariant_of-self g c =
    let i = c.self.inside in
    let base : c.hear_parts.new.mirror.base ≡ i.mirror.base =
    ap (λ (v : RollPeer _). v.roll.base) (c.hear_parts.ensures.heard (λ j o. 0) (λ j. 0)) ∙ parts-base (queues_of i.queues).room (map part_from c.parts.result) _ in
    let few = c.self.invariant.few in
    let is = subst (λ (p : PeerParts _). wire.IsPacket p.config.terms c.args.packet.now) (sym c.self.view_is) c.requires.packet in
    record {
      terms = c.self.invariant.terms;
      there = c.self.invariant.there;
      queues = c.hear_parts.ensures.slots ∙ c.self.invariant.queues;
      links = ap (λ (l : LinkState). l.slots) c.hear_head.ensures ∙ c.self.invariant.links;
      room = c.hear_parts.ensures.room ∙ c.self.invariant.room;
      short = heard-short i.config.terms c.args.packet.now c.parts.result (queues_of i.queues).room (queues_of i.queues) (queues_of c.hear_parts.new.self) i.mirror c.hear_parts.new.mirror
          is c.parts.ensures (c.hear_parts.ensures.heard (λ j o. 0) (λ j. 0)) c.self.invariant.short;
      few = rw base few;
    }

pub returns-clause-state : goal.returns-clause-state
returns-clause-state g c =
    let i = c.self.inside in
    let old : PeerParts _ = record { config = i.config; me = i.me; start = i.start; queues = i.queues; links = i.links; roll = i.mirror; forgotten = i.forgotten } in
    let q = queues_of i.queues in
    let clock : c.clock.result ≡ i.mirror.left.clock + i.mirror.base = (let e = c.clock.ensures.clock in omega arith) in
    rw (← c.self.view_is) (takes-in i.config c.args.packet.now (state_of old) (queues_of c.hear_parts.new.self).queues (links_of c.hear_head.new.self) c.hear_parts.new.mirror q.room c.clock.result (links_of i.links).slots
    c.self.invariant.room clock c.hear_head.ensures
    (λ known heard. c.hear_parts.ensures.heard known heard ∙ ap (λ (ps : List wire.Part). rolls_parts q.room (map part_from ps) (window_at q.queues known heard i.mirror)) c.parts.ensures))
