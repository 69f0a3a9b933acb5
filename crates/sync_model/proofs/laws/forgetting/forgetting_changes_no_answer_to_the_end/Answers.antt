use Rattle.sync_model.proofs.Forgetting.{event-to-the-end}
use Rattle.sync_model.proofs.laws.forgetting.forgetting_changes_no_answer_to_the_end.Goals as goal

pub returns : goal.returns
returns g c = λ b whole left e. event-to-the-end g.G.Game.rules b whole left e
