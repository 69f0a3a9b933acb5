use Rattle.sync_model.proofs.Settle.{settled_chained}
use Rattle.sync_model.proofs.laws.settling.settled_chained.Goals as goal

pub returns : goal.returns
returns c = λ accepted proposed. settled_chained accepted proposed
