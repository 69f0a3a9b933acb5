use Rattle.sync_model.proofs.Rebuilt.{arrival_early}
use Rattle.sync_model.proofs.laws.settling.arrival_early.Goals as goal

pub returns : goal.returns
returns c = λ accepted x runs chained none. arrival_early accepted x runs chained none
