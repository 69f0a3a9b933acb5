use Rattle.sync_model.proofs.Epochs.{epoch_bounded}
use Rattle.sync_model.proofs.laws.drafts.epoch_bounded.Goals as goal

pub returns : goal.returns
returns g c = λ s copy. epoch_bounded s copy
