use Rattle.std.proofs.Common.{ap}
use Rattle.rolling_mirror.specs.declared.arrival.Arrival.{Arrival}
use Rattle.endless_mirror.specs.Told.{answer_text, arrival_told}
use Rattle.endless_mirror.proofs.Own.{late-answer}
use Rattle.endless_mirror.proofs.laws.late_exactly.Goals as goal

pub returns-clause-answer : goal.returns-clause-answer
returns-clause-answer g c = λ s x bound. late-answer s.mirror x bound

pub returns-clause-told : goal.returns-clause-told
unfolding answer_text arrival_told
returns-clause-told g c = λ show s x bound is. ap (λ (a : Arrival). arrival_told s.number x a) is
