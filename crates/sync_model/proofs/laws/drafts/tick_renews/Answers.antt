use Rattle.sync_model.proofs.Renewals.{tick_renews}
use Rattle.sync_model.proofs.laws.drafts.tick_renews.Goals as goal

pub returns : goal.returns
returns g c = λ s copy. tick_renews s copy
