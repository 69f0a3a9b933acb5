use Rattle.std.proofs.Common.{rules, ◌≡◌, ◌∙◌, ◌≤◌, ℕ, ap, sym, subst, length}
use Rattle.peer_model.specs.Queue.{Sent}
use Rattle.peer_queue.specs.Room.{sent_of}
use Rattle.peer_slots.specs.Queues.{QueueState, queues_of}
use Rattle.peer_session.specs.Parts.{PeerParts}
use Rattle.peer_session.proofs.Shorts.{own-short}
use Rattle.peer_session.proofs.peer.Peer.issue.Goals as goal

pub invariant_of-self : goal.invariant_of-self
invariant_of-self g c =
    let i = c.self.inside in
    let less = subst (λ (p : PeerParts _). length c.args.bytes.now ≤ p.config.terms.payload) (sym c.self.view_is) c.requires.short in
    let short = subst (λ (n : ℕ). n ≤ i.config.terms.payload) (sym (ap (λ (x : Sent). length x.bytes) c.new.ensures.sent)) less in
    let is : queues_of c.own.new.self ≡ _ = c.own.ensures in
    record {
      terms = c.self.invariant.terms;
      there = c.self.invariant.there;
      queues = ap (λ (q : QueueState). q.slots) is ∙ c.self.invariant.queues;
      links = c.self.invariant.links;
      room = ap (λ (q : QueueState). q.room) is ∙ c.self.invariant.room;
      short = own-short i.config.terms.payload i.me (sent_of c.new.result) (queues_of i.queues) (queues_of c.own.new.self) is short c.self.invariant.short;
      few = search rules;
    }
