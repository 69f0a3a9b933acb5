use Rattle.sync_model.proofs.HostWorlds.{worlds-follow}
use Rattle.sync_model.proofs.laws.hosts.worlds_follow.Goals as goal

pub returns : goal.returns
returns g c = λ s es. worlds-follow g.G.Game.rules es s
