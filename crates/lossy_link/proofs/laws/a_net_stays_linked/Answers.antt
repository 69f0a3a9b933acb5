use Rattle.lossy_link.proofs.Linked.{lossy-linked}
use Rattle.lossy_link.proofs.laws.a_net_stays_linked.Goals as goal

pub returns : goal.returns
returns g c = λ x opening lossy k. lossy-linked x opening lossy k
