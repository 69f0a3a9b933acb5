use Rattle.sync_model.proofs.Room.{from_history-next}
use Rattle.sync_model.proofs.laws.room.from_history_kept.Goals as goal

pub returns : goal.returns
returns g c = λ s e room here. from_history-next s e room here
