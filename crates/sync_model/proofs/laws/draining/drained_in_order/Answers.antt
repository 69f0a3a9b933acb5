use Rattle.sync_model.proofs.Drain.{drained_in_order}
use Rattle.sync_model.proofs.laws.draining.drained_in_order.Goals as goal

pub returns : goal.returns
returns g c = λ s here drained. drained_in_order s here drained
