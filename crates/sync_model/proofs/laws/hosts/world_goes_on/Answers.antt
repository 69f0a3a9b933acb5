use Rattle.sync_model.proofs.Following.{goes-on}
use Rattle.sync_model.proofs.laws.hosts.world_goes_on.Goals as goal

pub returns : goal.returns
returns g c = λ opening front whole h. goes-on g.G.Game.rules opening front whole h
