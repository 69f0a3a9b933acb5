use Rattle.std.proofs.Common.{◌≡◌, ◌∙◌, ◌-◌, arith, suc, ℕ}
use Rattle.trailing_copy.proofs.Arriving.{none-above, above-last, count-late, count-repaired}
use Rattle.trailing_copy.proofs.Arriving.{early-repaired, first-upto, level-from}
use Rattle.trailing_copy.proofs.OwnClocks.{clock-own}
use Rattle.trailing_copy.proofs.Remade.{run-many}
use Rattle.trailing_copy.proofs.lazy.LazyStack.accept.Goals as goal

pub arrive_early-requires-clause-early : goal.arrive_early-requires-clause-early
arrive_early-requires-clause-early g c =
    rw (← c.self.view_is)
    (none-above c.args.x.now _ (count-late c.self.invariant.0 c.always.ensures.falls c.always.ensures.first
    c.args.x.now c.count_above-late.result
    (rw c.clocks.ensures at c.count_above-late.ensures.count) ∙ c.if-late-eq0.true))

pub returns-then-late-eq0-clause-repaired : goal.returns-then-late-eq0-clause-repaired
returns-then-late-eq0-clause-repaired g c =
    rw (← c.self.view_is)
    (early-repaired c.self.invariant.0 c.always.ensures.falls c.always.ensures.first c.args.x.now
    (none-above c.args.x.now _ (count-late c.self.invariant.0 c.always.ensures.falls c.always.ensures.first
    c.args.x.now c.count_above-late.result
    (rw c.clocks.ensures at c.count_above-late.ensures.count) ∙ c.if-late-eq0.true)))

one-less : (n : ℕ) → (n ≡ 0 → ⊥) → n ≡ suc (n - 1)
one-less n some = omega arith

pub arrive_late-requires-clause-late : goal.arrive_late-requires-clause-late
arrive_late-requires-clause-late g c =
    rw (← c.self.view_is)
    (above-last c.args.x.now _ (c.count_above-late.result - 1) c.self.invariant.0.trailing.chained
    (count-late c.self.invariant.0 c.always.ensures.falls c.always.ensures.first c.args.x.now
    c.count_above-late.result (rw c.clocks.ensures at c.count_above-late.ensures.count)
    ∙ one-less c.count_above-late.result c.if-late-eq0.false))

pub returns-clause-repaired : goal.returns-clause-repaired
returns-clause-repaired g c =
    let late =
    above-last c.args.x.now _ (c.count_above-late.result - 1) c.self.invariant.0.trailing.chained
    (count-late c.self.invariant.0 c.always.ensures.falls c.always.ensures.first c.args.x.now
    c.count_above-late.result (rw c.clocks.ensures at c.count_above-late.ensures.count)
    ∙ one-less c.count_above-late.result c.if-late-eq0.false) in
    rw (← c.self.view_is)
    (count-repaired c.self.invariant.0 c.always.ensures.falls c.always.ensures.first c.args.x.now
    (c.count_above-late.result - 1) c.count_above-repaired.result c.beats.result
    (rw (← c.self.view_is) at c.requires.new_name) late (clock-own _ _ _ c.beats.result late.there c.beats.ensures)
    (rw c.clocks-2.ensures at c.count_above-repaired.ensures.count))

pub arrive_late-requires-clause-order : goal.arrive_late-requires-clause-order
arrive_late-requires-clause-order g c =
    let late =
    above-last c.args.x.now _ (c.count_above-late.result - 1) c.self.invariant.0.trailing.chained
    (count-late c.self.invariant.0 c.always.ensures.falls c.always.ensures.first c.args.x.now
    c.count_above-late.result (rw c.clocks.ensures at c.count_above-late.ensures.count)
    ∙ one-less c.count_above-late.result c.if-late-eq0.false) in
    let many = run-many c.self.invariant.0 c.always.ensures.falls c.always.ensures.first in
    let there = late.there in
    first-upto c.self.invariant.0 c.always.ensures.falls c.always.ensures.first
    (c.count_above-late.result - 1) c.count_above-repaired.result c.beats.result (omega arith)
    (clock-own _ _ _ c.beats.result late.there c.beats.ensures) (rw c.clocks-2.ensures at c.count_above-repaired.ensures.count)

pub arrive_late-requires-clause-level : goal.arrive_late-requires-clause-level
arrive_late-requires-clause-level g c =
    let late =
    above-last c.args.x.now _ (c.count_above-late.result - 1) c.self.invariant.0.trailing.chained
    (count-late c.self.invariant.0 c.always.ensures.falls c.always.ensures.first c.args.x.now
    c.count_above-late.result (rw c.clocks.ensures at c.count_above-late.ensures.count)
    ∙ one-less c.count_above-late.result c.if-late-eq0.false) in
    let many = run-many c.self.invariant.0 c.always.ensures.falls c.always.ensures.first in
    let there = late.there in
    rw (← c.self.view_is)
    (λ i from upto.
    level-from c.self.invariant.0 c.always.ensures.falls c.always.ensures.first
    (c.count_above-late.result - 1) c.count_above-repaired.result c.beats.result i (omega arith)
    (clock-own _ _ _ c.beats.result late.there c.beats.ensures) (rw c.clocks-2.ensures at c.count_above-repaired.ensures.count) from upto)
