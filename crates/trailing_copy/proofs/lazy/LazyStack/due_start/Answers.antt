use Rattle.std.proofs.Common.{◌-◌, ap, arith}
use Rattle.trailing_copy.proofs.OwnClocks.{clock-own}
use Rattle.trailing_copy.proofs.Places.{end-told, start-told}
use Rattle.trailing_copy.proofs.lazy.LazyStack.due_start.Goals as goal

pub overflow_sub-result : goal.overflow_sub-result
overflow_sub-result g c =
    let there = rw (← c.self.view_is) at c.requires in
    let at = clock-own _ _ c.args.copy c.beats.result there c.beats.ensures in
    let told = end-told c.self.invariant.0 c.always.ensures.falls c.always.ensures.first c.args.copy c.beats.result there at in
    let end = c.end.ensures in
    omega arith

pub returns : goal.returns
returns g c =
    let there = rw (← c.self.view_is) at c.requires in
    let at = clock-own _ _ c.args.copy c.beats.result there c.beats.ensures in
    rw (← c.self.view_is)
    (start-told c.self.invariant.0 c.always.ensures.falls c.always.ensures.first c.args.copy c.beats.result _ there at
    (ap (λ n. n - c.beats.result) c.end.ensures))
