use Rattle.sync_model.proofs.HostWorlds.{unrepaired-grows-along}
use Rattle.sync_model.proofs.laws.hosts.unrepaired_runs_grow.Goals as goal

pub returns : goal.returns
returns g c = λ s es k. unrepaired-grows-along es s k
