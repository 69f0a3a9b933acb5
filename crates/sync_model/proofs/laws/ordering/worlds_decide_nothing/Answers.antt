use Rattle.sync_model.proofs.Openings.{next-opening, said-opening, after-opening, answers-opening}
use Rattle.sync_model.proofs.laws.ordering.worlds_decide_nothing.Goals as goal

pub returns-clause-state : goal.returns-clause-state
returns-clause-state g c = λ s opening e. next-opening opening s e

pub returns-clause-answer : goal.returns-clause-answer
returns-clause-answer g c = λ s opening e. said-opening opening s e

pub returns-clause-states : goal.returns-clause-states
returns-clause-states g c = λ s opening es. after-opening opening es s

pub returns-clause-answers : goal.returns-clause-answers
returns-clause-answers g c = λ s opening es. answers-opening opening es s
