use Rattle.sync_model.proofs.Replies.{step_repairs}
use Rattle.sync_model.proofs.laws.settling.step_repairs.Goals as goal

pub returns : goal.returns
returns g c = λ s k here there. step_repairs s k here there
