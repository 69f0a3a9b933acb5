use Rattle.lossy_link.proofs.Ended.{net-ended}
use Rattle.lossy_link.proofs.laws.a_net_loses_nothing.Goals as goal

pub returns : goal.returns
returns g c = λ x opening lossy. net-ended g.G.Game.rules x opening lossy
