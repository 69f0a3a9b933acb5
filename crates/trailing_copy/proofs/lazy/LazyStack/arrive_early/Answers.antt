use Rattle.trailing_copy.proofs.Arriving.{early-kept, early-settled}
use Rattle.trailing_copy.proofs.Settled.{settled-early}
use Rattle.trailing_copy.proofs.Steps.{same-state}
use Rattle.trailing_copy.proofs.lazy.LazyStack.arrive_early.Goals as goal

pub invariant_of-self : goal.invariant_of-self
invariant_of-self g c =
    rw c.insert.ensures (
      early-kept c.self.invariant.0 c.always.ensures.falls c.always.ensures.first c.args.x.now
          (rw (← c.self.view_is) at c.requires.room) (rw (← c.self.view_is) at c.requires.due)
          (rw (← c.self.view_is) at c.requires.early),
      settled-early c.self.invariant.0 c.always.ensures.falls c.always.ensures.first _ c.args.x.now
          c.self.invariant.1 (rw (← c.self.view_is) at c.requires.early),
    )

pub returns : goal.returns
returns g c =
    rw (← c.self.view_is, c.insert.ensures)
    (same-state _ _ _ _ _ _ _ (early-settled c.self.invariant.0 c.always.ensures.falls c.always.ensures.first
    c.args.x.now (rw (← c.self.view_is) at c.requires.early)))
