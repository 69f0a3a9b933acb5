use Rattle.sync_model.proofs.History.{clock_counts}
use Rattle.sync_model.proofs.laws.clocks.clock_counts.Goals as goal

pub returns : goal.returns
returns g c = λ s es. clock_counts s es
