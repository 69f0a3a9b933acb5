use Rattle.sync_model.proofs.TimeOrder.{keys-kept}
use Rattle.sync_model.proofs.laws.ordering.keys_go_on_differing.Goals as goal

pub returns : goal.returns
returns g c = λ b s x behind differ. keys-kept b s x behind differ
