use Rattle.sync_model.proofs.History.{late_exactly}
use Rattle.sync_model.proofs.laws.history.late_exactly.Goals as goal

pub returns : goal.returns
returns g c = λ s x bound. late_exactly s x bound
