use Rattle.sync_model.proofs.Forgetting.{based-left}
use Rattle.sync_model.proofs.TimeOrder.{based-trailing}
use Rattle.sync_model.proofs.laws.forgetting.a_mirror_put_at_its_base_is_a_window.Goals as goal

pub returns-clause-window : goal.returns-clause-window
returns-clause-window g c = λ b whole left h. based-left g.G.Game.rules b whole left h

pub returns-clause-trailing : goal.returns-clause-trailing
returns-clause-trailing g c = λ b s. based-trailing b s
