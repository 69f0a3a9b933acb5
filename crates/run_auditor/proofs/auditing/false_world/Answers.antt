use Rattle.run_auditor.proofs.AuditLaws.{items_next, items_wrong, items_end}
use Rattle.run_auditor.proofs.auditing.false_world.Goals as goal

pub returns-then-not-branch : goal.returns-then-not-branch
returns-then-not-branch g c =
    let here = c.in-Some.ensures.cases.0 in
    let wrong = items_wrong _ c.loop-block.copy _ _ _ _ here (c.in_ok-is_stated.ensures.other c.if-not-branch.true) c.loop-block.invariant in
    rw c.from.ensures wrong

pub loop-block-preserved : goal.loop-block-preserved
loop-block-preserved g c = items_next _ c.loop-block.copy _ _ _ _ c.in-Some.ensures.cases.0 (c.in_ok-is_stated.ensures.same c.if-not-branch.false) c.loop-block.invariant

pub returns : goal.returns
returns g c = items_end _ c.loop-block.copy _ _ c.in_default.ensures.cases c.loop-block.invariant
