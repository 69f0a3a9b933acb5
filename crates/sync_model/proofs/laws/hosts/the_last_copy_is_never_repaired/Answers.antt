use Rattle.sync_model.proofs.HostWorlds.{few-repaired}
use Rattle.sync_model.proofs.laws.hosts.the_last_copy_is_never_repaired.Goals as goal

pub returns : goal.returns
returns g c = λ s es. few-repaired es s
