use Rattle.sync_model.proofs.Drain.{draining_delivers_nothing}
use Rattle.sync_model.proofs.laws.draining.draining_delivers_nothing.Goals as goal

pub returns : goal.returns
returns g c = λ s. draining_delivers_nothing s
