use Rattle.std.proofs.Common.{◌∙◌, sym, eqb, ltb, ◌||◌, arith}
use Rattle.sync_model.proofs.Answered.{step_idle, step_ran}
use Rattle.sync_model.proofs.Limits.{idle-at, runs-on, below-end, behind-ahead}
use Rattle.mirror_core.proofs.Kept.{kept_ran, note-ran, small-numbers}
use Rattle.mirror_core.proofs.Renewed.{renewed-as}
use Rattle.mirror_core.proofs.inner.MirrorCore.step.Goals as goal

pub returns-then-clock-limit-clause-state : goal.returns-then-clock-limit-clause-state
returns-then-clock-limit-clause-state g c =
    let idle =
    idle-at _ c.args.copy c.clock.result c.limit.result c.clock.ensures
    (rw (← c.self.view_is) at c.limit.ensures) c.if-clock-limit.true in
    rw (← c.self.view_is) (sym (step_idle _ c.args.copy idle).0)

pub returns-then-clock-limit-clause-answer : goal.returns-then-clock-limit-clause-answer
returns-then-clock-limit-clause-answer g c =
    let idle =
    idle-at _ c.args.copy c.clock.result c.limit.result c.clock.ensures
    (rw (← c.self.view_is) at c.limit.ensures) c.if-clock-limit.true in
    rw (← c.self.view_is) (step_idle _ c.args.copy idle).1

pub run_tick-repaired-requires-clause-below : goal.run_tick-repaired-requires-clause-below
run_tick-repaired-requires-clause-below g c =
    let more =
    runs-on _ c.args.copy c.clock.result c.limit.result c.clock.ensures
    (rw (← c.self.view_is) at c.limit.ensures) c.if-clock-limit.false in
    below-end _ c.args.copy more

pub run_tick-repaired-requires-clause-behind : goal.run_tick-repaired-requires-clause-behind
run_tick-repaired-requires-clause-behind g c =
    let more =
    runs-on _ c.args.copy c.clock.result c.limit.result c.clock.ensures
    (rw (← c.self.view_is) at c.limit.ensures) c.if-clock-limit.false in
    behind-ahead _ c.args.copy more

pub renew_stepped-requires : goal.renew_stepped-requires
renew_stepped-requires g c = small-numbers c.self.invariant

pub push_reserved-requires : goal.push_reserved-requires
push_reserved-requires g c =
    let there = rw (← c.self.view_is) at c.requires in
    let more =
    runs-on _ c.args.copy c.clock.result c.limit.result c.clock.ensures
    (rw (← c.self.view_is) at c.limit.ensures) c.if-clock-limit.false in
    let fits = note-ran c.self.invariant c.args.copy there more in
    let len = c.self.inside.history.ok.0 in
    omega arith

pub invariant_of-self : goal.invariant_of-self
invariant_of-self g c =
    let there = rw (← c.self.view_is) at c.requires in
    let more =
    runs-on _ c.args.copy c.clock.result c.limit.result c.clock.ensures
    (rw (← c.self.view_is) at c.limit.ensures) c.if-clock-limit.false in
    rw (
      c.run_tick-repaired.ensures.state,
      c.push_reserved.ensures.items,
      c.push_reserved.ensures.capacity,
    )
    (kept_ran c.self.invariant c.args.copy c.from.result _ there more
    (c.from.ensures ∙ c.run_tick-repaired.ensures.repaired)
    (renewed-as (λ i k. eqb i c.args.copy || ltb i k) _ _ _ _ (sym c.from.ensures)
    c.renew_stepped.ensures))

pub returns-clause-state : goal.returns-clause-state
returns-clause-state g c =
    let more =
    runs-on _ c.args.copy c.clock.result c.limit.result c.clock.ensures
    (rw (← c.self.view_is) at c.limit.ensures) c.if-clock-limit.false in
    rw (
      ← c.self.view_is,
      c.run_tick-repaired.ensures.state,
      c.push_reserved.ensures.items,
    )
    (sym (step_ran _ c.args.copy more).0)

pub returns-clause-answer : goal.returns-clause-answer
returns-clause-answer g c =
    let more =
    runs-on _ c.args.copy c.clock.result c.limit.result c.clock.ensures
    (rw (← c.self.view_is) at c.limit.ensures) c.if-clock-limit.false in
    rw (← c.self.view_is, c.run_tick-repaired.ensures.repaired)
    (step_ran _ c.args.copy more).1
