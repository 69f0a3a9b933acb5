use Rattle.peer_laws.proofs.Heard.{differs-told}
use Rattle.peer_laws.proofs.laws.hearing.another_sum_is_told.Goals as goal

pub returns : goal.returns
returns g c = λ config p s. differs-told config p s
