use Rattle.sync_model.proofs.Repairs.{ahead-behind}
use Rattle.sync_model.proofs.Rebuilt.{step_apart}
use Rattle.sync_model.proofs.laws.settling.step_apart.Goals as goal

pub returns : goal.returns
returns c = λ accepted runs k chained complete there room apart. step_apart accepted runs k chained complete (ahead-behind runs k room) there apart
