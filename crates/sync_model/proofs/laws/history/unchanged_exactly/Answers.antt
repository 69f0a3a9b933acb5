use Rattle.sync_model.proofs.History.{unchanged_exactly}
use Rattle.sync_model.proofs.laws.history.unchanged_exactly.Goals as goal

pub returns : goal.returns
returns g c = λ s e. unchanged_exactly s e
