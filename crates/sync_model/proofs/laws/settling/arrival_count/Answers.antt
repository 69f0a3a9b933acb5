use Rattle.sync_model.proofs.Arrivals.{arrival_count}
use Rattle.sync_model.proofs.laws.settling.arrival_count.Goals as goal

pub returns : goal.returns
returns c = λ accepted x runs new chained complete. arrival_count accepted x runs new chained complete
