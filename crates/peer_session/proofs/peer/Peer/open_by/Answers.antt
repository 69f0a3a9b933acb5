use Rattle.std.proofs.Common.{◌∙◌, rules, ap, sym, subst}
use Rattle.peer_slots.specs.Queues.{QueueState}
use Rattle.peer_sending.specs.Sending.{AreShort}
use Rattle.peer_opening.proofs.Opens.{taken-short}
use Rattle.peer_session.proofs.peer.Peer.open_by.Goals as goal

pub invariant_of-result : goal.invariant_of-result
invariant_of-result g c =
    let config = c.args.config.now in
    let snap = c.args.snap.now in
    let opened = c.in_ok-queues.ensures in
    record {
      terms = c.requires.terms;
      there = c.requires.there;
      queues = ap (λ (q : QueueState). q.slots) opened ∙ c.requires.snapshot.slots;
      links = search rules;
      room = ap (λ (q : QueueState). q.room) opened;
      short = subst (AreShort config.terms.payload) (sym opened) (taken-short config.terms.payload snap.base snap.have snap.queues c.requires.snapshot.queues);
      few = search rules;
    }
