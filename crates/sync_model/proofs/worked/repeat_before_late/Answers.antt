use Rattle.std.proofs.Common.{refl}
use Rattle.sync_model.proofs.Computing.{computing}
use Rattle.sync_model.proofs.worked.repeat_before_late.Goals as goal

pub returns : goal.returns
unfolding computing
returns g c = record { answer = λ o. refl; drained = λ o. refl }
