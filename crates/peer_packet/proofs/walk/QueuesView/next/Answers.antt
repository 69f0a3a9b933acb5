use Rattle.std.proofs.Common.{sym, ◌∙◌}
use Rattle.std.proofs.lemmas.Bool.{eqb-true, eqb-false}
use Rattle.peer_packet.proofs.QueueWalks.{queues_none, queues_not, queues_next}
use Rattle.peer_packet.proofs.walk.QueuesView.next.Goals as goal

pub returns-then-is_empty : goal.returns-then-is_empty
returns-then-is_empty c =
    let e = sym c.self.view_is ∙ queues_none c.self.inside.base c.self.inside.rest.now (eqb-true _ _ (sym c.is_empty.ensures ∙ c.if-is_empty.true)) in
    (e, e)

pub invariant_of-self : goal.invariant_of-self
invariant_of-self c = (queues_next c.self.inside.base c.self.inside.rest.now c.in-Ok.queue c.in-Ok.rest.now (eqb-false _ _ (sym c.is_empty.ensures ∙ c.if-is_empty.false)) c.self.invariant c.in-Ok.ensures).0

pub unreachable-requires : goal.unreachable-requires
unreachable-requires c = queues_not c.self.inside.base c.self.inside.rest.now c.in-Err.field-0 (eqb-false _ _ (sym c.is_empty.ensures ∙ c.if-is_empty.false)) c.self.invariant c.in-Err.ensures

pub returns : goal.returns
returns c = sym c.self.view_is ∙ (queues_next c.self.inside.base c.self.inside.rest.now c.in-Ok.queue c.in-Ok.rest.now (eqb-false _ _ (sym c.is_empty.ensures ∙ c.if-is_empty.false)) c.self.invariant c.in-Ok.ensures).1
