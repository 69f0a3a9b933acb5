use Rattle.std.proofs.Common.{arith, ◌-◌, option_copied}
use Rattle.trailing_copy.proofs.OwnClocks.{clock-own, kept-own}
use Rattle.trailing_copy.proofs.Places.{start-at}
use Rattle.trailing_copy.proofs.Settled.{settled-front}
use Rattle.trailing_copy.proofs.Steps.{same-state, after-world, own-world}
use Rattle.trailing_copy.proofs.Remade.{run-many, end-inside}
use Rattle.trailing_copy.proofs.Running.{front-fits, front-runs, front-kept}
use Rattle.trailing_copy.proofs.lazy.LazyStack.step_front.Goals as goal

pub pass-requires-clause-upto : goal.pass-requires-clause-upto
pass-requires-clause-upto g c =
    let there = rw (← c.self.view_is) at c.requires.copy in
    let at = clock-own _ _ c.args.copy c.beats-t.result there.1 c.beats-t.ensures in
    rw (c.execute_or_put-by.ensures.count, c.in_order-list.ensures, c.settle.ensures) (front-fits c.self.invariant.0 c.always.ensures.falls c.always.ensures.first c.beats-t.result
    c.args.copy there.0 there.1 at
    (rw (← c.self.view_is) at c.requires.below)
    (rw (← c.self.view_is) at c.requires.behind) (rw (← c.self.view_is) at c.requires.front))

pub execute_or_put-by-requires-clause-few : goal.execute_or_put-by-requires-clause-few
execute_or_put-by-requires-clause-few g c =
    let there = rw (← c.self.view_is) at c.requires.copy in
    let at = clock-own _ _ c.args.copy c.beats-t.result there.1 c.beats-t.ensures in
    let fits =
    front-fits c.self.invariant.0 c.always.ensures.falls c.always.ensures.first c.beats-t.result c.args.copy there.0 there.1 at
    (rw (← c.self.view_is) at c.requires.below)
    (rw (← c.self.view_is) at c.requires.behind) (rw (← c.self.view_is) at c.requires.front) in
    rw (c.in_order-list.ensures, c.settle.ensures) (let some = there.0 in
    let within = there.1 in
    let many = run-many c.self.invariant.0 c.always.ensures.falls c.always.ensures.first in
    let inside = end-inside c.self.invariant.0 c.always.ensures.falls c.always.ensures.first (c.args.copy - 1) (omega arith) in
    let small = c.always.ensures.few in
    omega arith)

pub execute_or_put-by-requires-clause-start : goal.execute_or_put-by-requires-clause-start
execute_or_put-by-requires-clause-start g c =
    let there = (rw (← c.self.view_is) at c.requires.copy).1 in
    rw (c.in_order-list.ensures, c.settle.ensures)
    (start-at c.self.invariant.0 c.always.ensures.falls c.always.ensures.first c.args.copy c.beats-t.result _ there
    (clock-own _ _ c.args.copy c.beats-t.result there c.beats-t.ensures)
    (rw (← c.self.view_is) at c.due_start-start.ensures))

pub invariant_of-self : goal.invariant_of-self
invariant_of-self g c =
    let there = rw (← c.self.view_is) at c.requires.copy in
    let at = clock-own _ _ c.args.copy c.beats-t.result there.1 c.beats-t.ensures in
    let many = run-many c.self.invariant.0 c.always.ensures.falls c.always.ensures.first in
    let inside = there.1 in
    let d = c.self.inside.opening in
    rw (c.pass.ensures, c.execute_or_put-by.ensures.count, c.execute_or_put-by.ensures.worlds d, c.in_order-list.ensures, c.settle.ensures) (kept-own
    (front-kept c.self.invariant.0 c.always.ensures.falls c.always.ensures.first c.beats-t.result c.args.copy _ there.0 there.1 at
    (rw (← c.self.view_is) at c.requires.below)
    (rw (← c.self.view_is) at c.requires.behind) (rw (← c.self.view_is) at c.requires.front)
    (λ made. own-world c.self.invariant.0 c.always.ensures.falls c.always.ensures.first c.args.copy c.beats-t.result _ (omega arith) at
    (after-world c.self.invariant.0 c.always.ensures.falls c.always.ensures.first c.args.copy c.beats-t.result d
    (option_copied c.args.given) (omega arith) at (rw (← c.self.view_is) at c.requires.given) made)))
    (settled-front c.self.invariant.0 c.always.ensures.falls c.always.ensures.first _ c.args.copy c.beats-t.result
    c.self.invariant.1 there.0 there.1 at (rw (← c.self.view_is) at c.requires.behind)))

pub returns-clause-runs : goal.returns-clause-runs
returns-clause-runs g c =
    let there = rw (← c.self.view_is) at c.requires.copy in
    let at = clock-own _ _ c.args.copy c.beats-t.result there.1 c.beats-t.ensures in
    rw (← c.self.view_is, c.pass.ensures, c.execute_or_put-by.ensures.count, c.in_order-list.ensures, c.settle.ensures)
    (same-state _ _ _ _ _ _ _ (front-runs c.self.invariant.0 c.always.ensures.falls c.always.ensures.first c.beats-t.result
    c.args.copy there.0 there.1 at
    (rw (← c.self.view_is) at c.requires.below)
    (rw (← c.self.view_is) at c.requires.behind) (rw (← c.self.view_is) at c.requires.front)).0)

pub returns-clause-repaired : goal.returns-clause-repaired
returns-clause-repaired g c =
    let there = rw (← c.self.view_is) at c.requires.copy in
    let at = clock-own _ _ c.args.copy c.beats-t.result there.1 c.beats-t.ensures in
    rw (← c.self.view_is)
    (front-runs c.self.invariant.0 c.always.ensures.falls c.always.ensures.first c.beats-t.result c.args.copy there.0 there.1 at
    (rw (← c.self.view_is) at c.requires.below)
    (rw (← c.self.view_is) at c.requires.behind) (rw (← c.self.view_is) at c.requires.front)).1
