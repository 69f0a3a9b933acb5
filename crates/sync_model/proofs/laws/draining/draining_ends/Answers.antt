use Rattle.sync_model.proofs.Drain.{draining_ends}
use Rattle.sync_model.proofs.laws.draining.draining_ends.Goals as goal

pub returns : goal.returns
returns g c = λ s rise here. draining_ends s rise here
