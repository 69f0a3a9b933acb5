use Rattle.sync_model.proofs.Room.{from_history-reached}
use Rattle.sync_model.proofs.laws.room.from_history_reached.Goals as goal

pub returns : goal.returns
returns g c = λ s here. from_history-reached s here
