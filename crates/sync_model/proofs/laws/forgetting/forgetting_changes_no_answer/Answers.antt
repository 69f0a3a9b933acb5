use Rattle.sync_model.proofs.Forgetting.{event-left-over}
use Rattle.sync_model.proofs.laws.forgetting.forgetting_changes_no_answer.Goals as goal

pub returns : goal.returns
returns g c = λ b whole left e. event-left-over g.G.Game.rules b whole left e
