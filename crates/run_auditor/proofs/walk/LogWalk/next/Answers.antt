use Rattle.std.proofs.Common.{sym, ◌∙◌}
use Rattle.run_auditor.proofs.WalkLaws.{why_changes, why_stays, has_room, walk_moves, walk_stays, stays_put}
use Rattle.run_auditor.proofs.walk.LogWalk.next.Goals as goal

pub make-reply-requires-clause-room : goal.make-reply-requires-clause-room
make-reply-requires-clause-room g c = has_room c.self.inside.mirror c.self.inside.left.now c.in-Some.rest.now c.in-Some.event.now c.in-Some.ensures.cases.0 c.self.invariant

pub invariant_of-self : goal.invariant_of-self
invariant_of-self g c =
    let stays = why_stays _ c.in-Some-why_of.why (sym c.why_of.ensures ∙ c.in-Some-why_of.is) in
    rw c.make-reply.ensures.state (walk_stays c.self.inside.mirror c.self.inside.left.now c.in-Some.event.now (rw c.make-reply.ensures.answer at stays) c.self.invariant)

pub invariant_of-self-in-None : goal.invariant_of-self-in-None
invariant_of-self-in-None g c =
    let moves = why_changes _ (sym c.why_of.ensures ∙ c.in-None.is) in
    rw c.make-reply.ensures.state (walk_moves c.self.inside.mirror c.self.inside.left.now c.in-Some.rest.now
    c.in-Some.event.now c.in-Some.ensures.cases.0 (rw c.make-reply.ensures.answer at moves) c.self.invariant)

pub returns-in-Some-why_of-clause-state : goal.returns-in-Some-why_of-clause-state
returns-in-Some-why_of-clause-state g c =
    let stuck = rw c.make-reply.ensures.answer at (sym c.why_of.ensures ∙ c.in-Some-why_of.is) in
    rw c.make-reply.ensures.state (stays_put (record {
      number = c.self.inside.number;
      mirror = c.self.inside.mirror;
      left = c.self.inside.left.now;
    }) c.args.self.now c.in-Some.event.now c.in-Some.rest.now c.in-Some-why_of.why
    c.self.view_is c.in-Some.ensures.cases.0 stuck)
