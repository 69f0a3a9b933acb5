use Rattle.sync_model.proofs.Repairs.{step_repairs_first, behind-ahead}
use Rattle.sync_model.proofs.laws.settling.step_repairs_first.Goals as goal

pub returns : goal.returns
returns c = λ accepted runs k chained complete there room. step_repairs_first accepted runs k chained complete (behind-ahead runs k room) there
