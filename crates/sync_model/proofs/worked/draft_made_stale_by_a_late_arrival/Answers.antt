use Rattle.std.proofs.Common.{refl}
use Rattle.sync_model.proofs.Computing.{computing}
use Rattle.sync_model.proofs.worked.draft_made_stale_by_a_late_arrival.Goals as goal

pub returns : goal.returns
unfolding computing
returns g c = record { before = λ o. refl; arrived = λ o. refl; again = λ o. refl }
