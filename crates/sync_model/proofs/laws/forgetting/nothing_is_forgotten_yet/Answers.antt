use Rattle.sync_model.proofs.Forgotten.{whole-yet}
use Rattle.sync_model.proofs.laws.forgetting.nothing_is_forgotten_yet.Goals as goal

pub returns : goal.returns
returns g c = λ s some. whole-yet g.G.Game.rules s some
