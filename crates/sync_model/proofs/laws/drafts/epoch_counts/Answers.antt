use Rattle.sync_model.proofs.Epochs.{epoch_counts}
use Rattle.sync_model.proofs.laws.drafts.epoch_counts.Goals as goal

pub returns : goal.returns
returns g c = λ s copy e here. epoch_counts s copy e here
