use Rattle.peer_model.proofs.Progress.{due-brings}
use Rattle.peer_model.proofs.laws.progress.what_is_due_is_brought.Goals as goal

pub returns : goal.returns
returns g c = λ slots me relay to o spans most n here whole has. due-brings slots me relay to o spans most n here whole has
