use Rattle.sync_model.proofs.Rebuilt.{step_front}
use Rattle.sync_model.proofs.laws.settling.step_front.Goals as goal

pub returns : goal.returns
returns c = λ accepted runs k chained front. step_front accepted runs k chained front
