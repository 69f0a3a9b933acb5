use Rattle.sync_model.proofs.Drain.{drained_is_tested}
use Rattle.sync_model.proofs.laws.draining.drained_is_tested.Goals as goal

pub returns : goal.returns
returns g c = λ s. drained_is_tested s
