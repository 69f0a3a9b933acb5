use Rattle.sync_model.proofs.Room.{from_history-opening}
use Rattle.sync_model.proofs.laws.room.opening_from_history.Goals as goal

pub returns : goal.returns
returns g c = λ opening length plans spare plan_spare. from_history-opening opening length plans spare plan_spare
