use Rattle.sync_model.proofs.History.{history_grows}
use Rattle.sync_model.proofs.laws.history.history_grows.Goals as goal

pub returns : goal.returns
returns g c = λ s es. history_grows s es
