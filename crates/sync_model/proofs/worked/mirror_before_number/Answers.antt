use Rattle.std.proofs.Common.{refl}
use Rattle.sync_model.proofs.Computing.{computing}
use Rattle.sync_model.proofs.worked.mirror_before_number.Goals as goal

pub returns : goal.returns
unfolding computing
returns g c = record { first = λ o. refl; last = λ o. refl }
