use Rattle.sync_model.proofs.Epochs.{epoch_rises}
use Rattle.sync_model.proofs.laws.drafts.epoch_rises.Goals as goal

pub returns : goal.returns
returns g c = λ s copy es here. epoch_rises es s copy here
