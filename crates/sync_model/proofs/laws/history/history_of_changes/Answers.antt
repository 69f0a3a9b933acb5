use Rattle.sync_model.proofs.Room.{history_of_changes}
use Rattle.sync_model.proofs.laws.history.history_of_changes.Goals as goal

pub returns : goal.returns
returns g c = λ s e here each. history_of_changes s e here each
