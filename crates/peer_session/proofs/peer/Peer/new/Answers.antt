use Rattle.std.proofs.Common.{rules, ap}
use Rattle.peer_slots.specs.Queues.{QueueState, queues_of}
use Rattle.peer_session.proofs.Shorts.{none-short}
use Rattle.peer_session.proofs.peer.Peer.new.Goals as goal

pub invariant_of-result : goal.invariant_of-result
invariant_of-result g c =
    let config = c.args.config.now in
    record {
      terms = c.requires.terms;
      there = c.requires.there;
      queues = ap (λ (q : QueueState). q.slots) c.in_ok-new.ensures;
      links = search rules;
      room = ap (λ (q : QueueState). q.room) c.in_ok-new.ensures;
      short = none-short config.terms.payload config.terms.slots config.room (queues_of c.in_ok-new.field-0) c.in_ok-new.ensures;
      few = search rules;
    }
