use Rattle.rewind_store.proofs.Looks.{cached-exact, cached-order, times-once}
use Rattle.rewind_store.proofs.laws.cached_are_the_ticks_looked_at_last.Goals as goal

pub returns-clause-exact : goal.returns-clause-exact
returns-clause-exact c = λ room t looks some. cached-exact t room looks some

pub returns-clause-order : goal.returns-clause-order
returns-clause-order c = cached-order

pub returns-clause-once : goal.returns-clause-once
returns-clause-once c = times-once
