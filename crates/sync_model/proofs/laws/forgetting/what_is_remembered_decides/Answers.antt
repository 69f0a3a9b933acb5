use Rattle.sync_model.proofs.Forgetting.{remembered-decides}
use Rattle.sync_model.proofs.laws.forgetting.what_is_remembered_decides.Goals as goal

pub returns : goal.returns
returns g c = λ b s x known. remembered-decides b s x known
