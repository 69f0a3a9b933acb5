use Rattle.sync_model.proofs.Repairs.{step_count, behind-ahead}
use Rattle.sync_model.proofs.laws.settling.step_count.Goals as goal

pub returns : goal.returns
returns c = λ accepted runs k chained complete there room. step_count accepted runs k chained complete (behind-ahead runs k room) there
