use Rattle.std.proofs.Common.{refl}
use Rattle.sync_model.proofs.Computing.{computing}
use Rattle.sync_model.proofs.worked.repeat_and_late_again.Goals as goal

pub returns : goal.returns
unfolding computing
returns g c = record { repeats = λ o. refl; accepted = λ o. refl; spare = λ o. refl; once = λ o. refl; late = λ o. refl; history = λ o. refl; twice = λ o. refl }
