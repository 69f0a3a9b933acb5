use Rattle.sync_model.proofs.Drain.{drained_worlds}
use Rattle.sync_model.proofs.laws.draining.drained_worlds.Goals as goal

pub returns : goal.returns
returns g c = λ s here drained. drained_worlds g.G.Game.rules s here drained
