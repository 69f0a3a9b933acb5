use Rattle.std.proofs.Common.{refl}
use Rattle.sync_model.proofs.Computing.{computing}
use Rattle.sync_model.proofs.worked.newcomers_are_replayed.Goals as goal

pub returns : goal.returns
unfolding computing
returns g c = record { runs = λ o. refl; step = λ o. refl; repaired = λ o. refl; drained = λ o. refl }
