use Rattle.std.proofs.Common.{refl}
use Rattle.sync_model.proofs.Computing.{computing}
use Rattle.sync_model.proofs.worked.over_and_idle.Goals as goal

pub returns : goal.returns
unfolding computing
returns g c = record { over = λ o. refl; leading = λ o. refl; trailing = λ o. refl; history = λ o. refl; clock = λ o. refl }
