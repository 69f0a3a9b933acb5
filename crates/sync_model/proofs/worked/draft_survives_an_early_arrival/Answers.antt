use Rattle.std.proofs.Common.{refl}
use Rattle.sync_model.proofs.Computing.{computing}
use Rattle.sync_model.proofs.worked.draft_survives_an_early_arrival.Goals as goal

pub returns : goal.returns
unfolding computing
returns g c = λ o. refl
