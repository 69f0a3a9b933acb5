use Rattle.trailing_copy.proofs.OwnClocks.{within-kept}
use Rattle.trailing_copy.proofs.lazy.LazyStack.always.Goals as goal

pub returns-clause-trailing : goal.returns-clause-trailing
returns-clause-trailing g c = rw (← c.self.view_is) c.self.invariant.0.trailing

pub returns-clause-within_match : goal.returns-clause-within_match
returns-clause-within_match g c = rw (← c.self.view_is) (within-kept c.self.invariant.0)

pub returns-clause-names : goal.returns-clause-names
returns-clause-names g c = rw (← c.self.view_is) c.all.ensures.names

pub returns-clause-due : goal.returns-clause-due
returns-clause-due g c = rw (← c.self.view_is) c.all.ensures.due
