use Rattle.sync_model.proofs.Played.{played}
use Rattle.sync_model.proofs.laws.draining.played_in_order.Goals as goal

pub returns : goal.returns
returns g c = λ opening length plans spare plan_spare es rise fit. played opening length plans spare plan_spare es rise fit
