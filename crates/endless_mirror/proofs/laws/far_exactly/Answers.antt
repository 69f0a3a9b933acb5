use Rattle.std.proofs.Common.{ap}
use Rattle.rolling_mirror.specs.declared.arrival.Arrival.{Arrival}
use Rattle.rolling_mirror.specs.Rolling.{arrived}
use Rattle.endless_mirror.specs.Session.{mirror_after}
use Rattle.endless_mirror.specs.Told.{answer_text, arrival_told}
use Rattle.endless_mirror.proofs.Own.{far-answer}
use Rattle.endless_mirror.proofs.laws.far_exactly.Goals as goal

pub returns-clause-answer : goal.returns-clause-answer
returns-clause-answer g c = λ s x end. far-answer s.mirror x end

pub returns-clause-told : goal.returns-clause-told
unfolding answer_text arrival_told
returns-clause-told g c = λ show s x end is. ap (λ (a : Arrival). arrival_told s.number x a) is

pub returns-clause-same : goal.returns-clause-same
unfolding mirror_after
returns-clause-same g c = λ s x end is. ap (λ (a : Arrival). arrived s.mirror x a) is
