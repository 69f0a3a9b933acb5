use Rattle.sync_model.proofs.Epochs.{renews_exactly}
use Rattle.sync_model.proofs.laws.drafts.renews_exactly.Goals as goal

pub returns : goal.returns
returns g c = λ s copy e. renews_exactly s copy e
