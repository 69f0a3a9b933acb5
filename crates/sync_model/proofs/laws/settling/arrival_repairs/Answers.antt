use Rattle.sync_model.proofs.Replies.{arrival_repairs}
use Rattle.sync_model.proofs.laws.settling.arrival_repairs.Goals as goal

pub returns : goal.returns
returns g c = λ s x here. arrival_repairs s x here
