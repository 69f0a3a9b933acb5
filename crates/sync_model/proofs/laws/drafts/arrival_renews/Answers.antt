use Rattle.sync_model.proofs.Renewals.{arrival_renews}
use Rattle.sync_model.proofs.laws.drafts.arrival_renews.Goals as goal

pub returns : goal.returns
returns g c = λ s copy x here. arrival_renews s copy x here
