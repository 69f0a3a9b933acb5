use Rattle.std.proofs.Common.{refl}
use Rattle.sync_model.proofs.Computing.{computing}
use Rattle.sync_model.proofs.worked.late_at_the_leading_copy.Goals as goal

pub returns : goal.returns
unfolding computing
returns g c = record { answer = λ o. refl; runs = λ o. refl; repair = λ o. refl; drained = λ o. refl }
