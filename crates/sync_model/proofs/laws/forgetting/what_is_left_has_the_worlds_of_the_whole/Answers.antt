use Rattle.sync_model.proofs.Forgotten.{left-worlds}
use Rattle.sync_model.proofs.laws.forgetting.what_is_left_has_the_worlds_of_the_whole.Goals as goal

pub returns : goal.returns
returns g c = λ b whole left copy. left-worlds g.G.Game.rules b whole left copy
