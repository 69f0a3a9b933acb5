use Rattle.std.proofs.Common.{◌≡◌, List, length, refl, sym, subst, ◌∙◌}
use Rattle.std.specs.List.{AllByRecursion}
use Rattle.sync_model.specs.Schedule.{Schedule, ticks_of_first, copies_of_first}
use Rattle.run_auditor.proofs.WalkLaws.{opened, walk_begins}
use Rattle.run_auditor.proofs.walk.LogWalk.new.Goals as goal
use Rattle.match_data.proofs.Plans.{few-plans, equal-ticks, equal-copies}

pub new-requires-clause-few_plans : goal.new-requires-clause-few_plans
new-requires-clause-few_plans g c = rw (c.as_slice.ensures.value, c.in_ok-plans.ensures.plans) (few-plans c.args.m.now c.in_ok-plans.ensures.sound)

pub new-requires-clause-equal_ticks : goal.new-requires-clause-equal_ticks
new-requires-clause-equal_ticks g c =
    subst (λ (ps : List Schedule). AllByRecursion (λ plan. plan.length ≡ ticks_of_first ps) ps)
    (sym (c.as_slice.ensures.value ∙ c.in_ok-plans.ensures.plans))
    (equal-ticks c.args.m.now c.in_ok-plans.ensures.sound)

pub new-requires-clause-equal_copies : goal.new-requires-clause-equal_copies
new-requires-clause-equal_copies g c =
    subst (λ (ps : List Schedule). AllByRecursion (λ plan. length plan.delays ≡ copies_of_first ps) ps)
    (sym (c.as_slice.ensures.value ∙ c.in_ok-plans.ensures.plans))
    (equal-copies c.args.m.now c.in_ok-plans.ensures.sound)

pub invariant_of-result : goal.invariant_of-result
invariant_of-result g c =
    let mirror = opened c.args.opening.now c.args.m.now _ c.args.log.now.events _ _ _
    (c.as_slice.ensures.value ∙ c.in_ok-plans.ensures.plans)
    (rw c.as_slice-events.ensures at c.arrivals.ensures.count)
    (rw c.as_slice-events.ensures at c.restaggers.ensures.count) c.in_ok-mirror.ensures in
    rw (mirror, c.as_slice-events.ensures) (walk_begins c.args.opening.now c.args.m.now c.args.log.now.events c.in_ok-plans.ensures.sound c.requires.few c.requires.events)

pub returns : goal.returns
returns g c =
    let mirror = opened c.args.opening.now c.args.m.now _ c.args.log.now.events _ _ _
    (c.as_slice.ensures.value ∙ c.in_ok-plans.ensures.plans)
    (rw c.as_slice-events.ensures at c.arrivals.ensures.count)
    (rw c.as_slice-events.ensures at c.restaggers.ensures.count) c.in_ok-mirror.ensures in
    rw (mirror, c.as_slice-events.ensures) refl
