use Rattle.sync_model.proofs.Rebuilt.{arrival_late}
use Rattle.sync_model.proofs.laws.settling.arrival_late.Goals as goal

pub returns : goal.returns
returns c = λ accepted x runs m new chained complete here. arrival_late accepted x runs m new chained complete here
