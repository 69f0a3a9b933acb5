use Rattle.sync_model.proofs.Epochs.{epoch_opens}
use Rattle.sync_model.proofs.laws.drafts.epoch_opens.Goals as goal

pub returns : goal.returns
returns g c = λ opening length plans spare plan_spare copy. epoch_opens opening length plans spare plan_spare copy
