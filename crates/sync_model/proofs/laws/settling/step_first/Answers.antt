use Rattle.sync_model.proofs.Rebuilt.{step_first}
use Rattle.sync_model.proofs.laws.settling.step_first.Goals as goal

pub returns : goal.returns
returns c = λ accepted runs chained. step_first accepted runs chained
