use Rattle.sync_model.proofs.Settle.{begins_with-Decides}
use Rattle.sync_model.proofs.laws.settling.begins_with_prefix.Goals as goal

pub returns : goal.returns
returns c = λ ahead behind. begins_with-Decides ahead behind
