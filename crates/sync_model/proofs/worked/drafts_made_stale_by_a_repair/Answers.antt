use Rattle.std.proofs.Common.{refl}
use Rattle.sync_model.proofs.Computing.{computing}
use Rattle.sync_model.proofs.worked.drafts_made_stale_by_a_repair.Goals as goal

pub returns : goal.returns
unfolding computing
returns g c = record { before = λ o. refl; repaired = λ o. refl; restaggered = λ o. refl }
