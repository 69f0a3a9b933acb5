use Rattle.std.proofs.Common.{arith}
use Rattle.trailing_copy.proofs.OwnClocks.{clock-own}
use Rattle.trailing_copy.proofs.Steps.{clock-read}
use Rattle.trailing_copy.proofs.Remade.{run-many}
use Rattle.trailing_copy.proofs.lazy.LazyStack.clock.Goals as goal

pub returns : goal.returns
returns g c =
    let there = rw (← c.self.view_is) at c.requires in
    let many = run-many c.self.invariant.0 c.always.ensures.falls c.always.ensures.first in
    rw (← c.self.view_is) (clock-read c.self.invariant.0 c.always.ensures.falls c.always.ensures.first
    c.args.copy _ (omega arith) (clock-own _ _ c.args.copy _ there c.beats.ensures))
