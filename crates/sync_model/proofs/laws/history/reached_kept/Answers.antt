use Rattle.sync_model.proofs.Room.{reached-next}
use Rattle.sync_model.proofs.laws.history.reached_kept.Goals as goal

pub returns : goal.returns
returns g c = λ s e here. reached-next s e here
