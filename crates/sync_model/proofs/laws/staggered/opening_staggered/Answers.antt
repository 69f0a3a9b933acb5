use Rattle.sync_model.proofs.Staggered.{staggered-opening}
use Rattle.sync_model.proofs.laws.staggered.opening_staggered.Goals as goal

pub returns : goal.returns
returns g c = λ opening length plans spare plan_spare. staggered-opening opening length plans spare plan_spare
