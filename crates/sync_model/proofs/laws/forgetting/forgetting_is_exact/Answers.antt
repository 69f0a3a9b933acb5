use Rattle.sync_model.proofs.Forgetting.{arrival-exact}
use Rattle.sync_model.proofs.laws.forgetting.forgetting_is_exact.Goals as goal

pub returns : goal.returns
returns g c = λ b whole left x h before before_left. arrival-exact g.G.Game.rules b whole left h x
