use Rattle.std.proofs.Common.{refl}
use Rattle.sync_model.proofs.Computing.{computing}
use Rattle.sync_model.proofs.worked.no_passing.Goals as goal

pub returns : goal.returns
unfolding computing
returns g c = record { answer = λ o. refl; runs = λ o. refl; history = λ o. refl; drained = λ o. refl }
