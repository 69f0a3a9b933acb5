use Rattle.std.proofs.Common.{refl}
use Rattle.sync_model.proofs.Computing.{computing}
use Rattle.sync_model.proofs.worked.late_by_one.Goals as goal

pub returns : goal.returns
unfolding computing
returns g c = record { answer = λ o. refl; turned = λ o. refl; room = λ o. refl; drained = λ o. refl }
