use Rattle.sync_model.proofs.Rebuilt.{last_late}
use Rattle.sync_model.proofs.laws.settling.last_late.Goals as goal

pub returns : goal.returns
returns c = λ x runs some. last_late x runs some
