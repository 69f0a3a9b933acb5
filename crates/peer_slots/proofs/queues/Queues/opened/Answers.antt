use Rattle.std.proofs.Common.{◌∙◌}
use Rattle.peer_slots.specs.Opened.{all_taken}
use Rattle.peer_slots.proofs.Opens.{few-slots, queues-taken, are-taken}
use Rattle.peer_slots.proofs.queues.Queues.opened.Goals as goal

pub invariant_of-result : goal.invariant_of-result
invariant_of-result c =
    are-taken c.args.room c.args.snap.now.have c.args.snap.now.queues c.in_ok-open_queues.field-0.items (few-slots c.args.snap.now c.requires.snapshot)
    (c.in_ok-open_queues.ensures ∙ (λ i. all_taken c.args.room (c.have.ensures i) (c.queues.ensures i)))

pub returns : goal.returns
returns c =
    queues-taken c.args.room c.args.snap.now.have c.args.snap.now.queues c.in_ok-open_queues.field-0.items
    (c.in_ok-open_queues.ensures ∙ (λ i. all_taken c.args.room (c.have.ensures i) (c.queues.ensures i)))
