use Rattle.sync_model.proofs.Forgotten.{forgotten-left}
use Rattle.sync_model.proofs.laws.forgetting.what_lies_behind_the_last_copy_is_forgotten.Goals as goal

pub returns : goal.returns
returns g c = λ b whole left. forgotten-left g.G.Game.rules b whole left
