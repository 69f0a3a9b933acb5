use Rattle.std.proofs.Common.{◌∙◌, arith}
use Rattle.trailing_copy.proofs.OwnClocks.{clock-own}
use Rattle.trailing_copy.proofs.Places.{start-at}
use Rattle.trailing_copy.proofs.Remade.{run-many, end-inside}
use Rattle.trailing_copy.proofs.Running.{none-stands, none-told, test-same}
use Rattle.trailing_copy.proofs.lazy.LazyStack.is_front.Goals as goal

pub diverges-requires-clause-place : goal.diverges-requires-clause-place
diverges-requires-clause-place g c =
    (let there = rw (← c.self.view_is) at c.requires.copy in
    let inside = there.1 in
    let many = run-many c.self.invariant.0 c.always.ensures.falls c.always.ensures.first in
    rw c.end-place.ensures
    (end-inside c.self.invariant.0 c.always.ensures.falls c.always.ensures.first c.args.copy (omega arith)))

pub diverges-requires-clause-start : goal.diverges-requires-clause-start
diverges-requires-clause-start g c =
    let there = (rw (← c.self.view_is) at c.requires.copy).1 in
    rw (c.in_order.ensures, c.settle.ensures) (start-at c.self.invariant.0 c.always.ensures.falls c.always.ensures.first c.args.copy c.beats-t.result _ there
    (clock-own _ _ c.args.copy c.beats-t.result there c.beats-t.ensures)
    (rw (← c.self.view_is) at c.due_start-start.ensures))

pub invariant_of-self : goal.invariant_of-self
invariant_of-self g c = rw c.settle.ensures c.self.invariant

pub returns-clause-front : goal.returns-clause-front
returns-clause-front g c =
    let there = rw (← c.self.view_is) at c.requires.copy in
    rw (← c.self.view_is)
    (none-told c.is_none.result c.diverges.result c.is_none.ensures
    ∙ none-stands c.diverges.result _ _ (rw (c.end-place.ensures, c.in_order.ensures, c.settle.ensures) at c.diverges.ensures.none)
    ∙ test-same c.self.invariant.0 c.always.ensures.falls c.always.ensures.first c.args.copy
    c.beats-t.result there.0 there.1 (clock-own _ _ c.args.copy c.beats-t.result there.1 c.beats-t.ensures)
    (rw (← c.self.view_is) at c.requires.behind))
