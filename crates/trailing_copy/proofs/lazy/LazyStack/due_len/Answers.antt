use Rattle.std.proofs.Common.{◌≡◌, ◌-◌, ℕ, length, subst, arith}
use Rattle.game_trait.specs.Ordered.{due_at}
use Rattle.pending_list.proofs.Walks.{start-next}
use Rattle.trailing_copy.proofs.OwnClocks.{clock-own}
use Rattle.trailing_copy.proofs.Places.{start-at}
use Rattle.trailing_copy.proofs.Remade.{run-many}
use Rattle.trailing_copy.proofs.Steps.{clock-read}
use Rattle.trailing_copy.proofs.lazy.LazyStack.due_len.Goals as goal

pub overflow_sub-result : goal.overflow_sub-result
overflow_sub-result g c =
    let there = rw (← c.self.view_is) at c.requires.there in
    let clock = clock-own _ _ c.args.copy c.beats.result there c.beats.ensures in
    let from =
    start-at c.self.invariant.0 c.always.ensures.falls c.always.ensures.first c.args.copy c.beats.result _ there clock
    (rw (← c.self.view_is) at c.due_start-start.ensures) in
    (let more = start-next c.self.inside.list.all c.beats.result in let to = rw (c.in_order.ensures, c.settle.ensures) at c.end.ensures in omega arith)

pub end-requires-clause-start : goal.end-requires-clause-start
end-requires-clause-start g c =
    let there = rw (← c.self.view_is) at c.requires.there in
    rw (c.in_order.ensures, c.settle.ensures)
    (start-at c.self.invariant.0 c.always.ensures.falls c.always.ensures.first c.args.copy c.beats.result _ there
    (clock-own _ _ c.args.copy c.beats.result there c.beats.ensures)
    (rw (← c.self.view_is) at c.due_start-start.ensures))

pub invariant_of-self : goal.invariant_of-self
invariant_of-self g c = rw c.settle.ensures c.self.invariant

pub returns-clause-len : goal.returns-clause-len
returns-clause-len g c =
    let there = rw (← c.self.view_is) at c.requires.there in
    let clock = clock-own _ _ c.args.copy c.beats.result there c.beats.ensures in
    let from =
    start-at c.self.invariant.0 c.always.ensures.falls c.always.ensures.first c.args.copy c.beats.result _ there clock
    (rw (← c.self.view_is) at c.due_start-start.ensures) in
    let many = run-many c.self.invariant.0 c.always.ensures.falls c.always.ensures.first in
    rw (← c.self.view_is)
    (subst (λ (t : ℕ). c.end.result - c.due_start-start.result ≡ length (due_at c.self.inside.list.all t))
    (clock-read c.self.invariant.0 c.always.ensures.falls c.always.ensures.first c.args.copy c.beats.result (omega arith) clock)
    (let more = start-next c.self.inside.list.all c.beats.result in let to = rw (c.in_order.ensures, c.settle.ensures) at c.end.ensures in omega arith))
