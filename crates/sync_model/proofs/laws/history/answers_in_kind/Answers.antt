use Rattle.sync_model.proofs.History.{answers_in_kind}
use Rattle.sync_model.proofs.laws.history.answers_in_kind.Goals as goal

pub returns : goal.returns
returns g c = λ s e. answers_in_kind s e
