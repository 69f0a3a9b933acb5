use Rattle.sync_model.proofs.Renewals.{step_renews}
use Rattle.sync_model.proofs.laws.drafts.step_renews.Goals as goal

pub returns : goal.returns
returns g c = λ s copy a here there. step_renews s copy a here there
