use Rattle.peer_laws.proofs.Heard.{repaired-told}
use Rattle.peer_laws.proofs.laws.hearing.the_most_repaired_is_told.Goals as goal

pub returns : goal.returns
returns g c = λ config p s. repaired-told config p s
