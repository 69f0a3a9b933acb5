use Rattle.sync_model.proofs.Arrivals.{arrival_repairs_first}
use Rattle.sync_model.proofs.laws.settling.arrival_repairs_first.Goals as goal

pub returns : goal.returns
returns c = λ accepted x runs new chained complete. arrival_repairs_first accepted x runs new chained complete
