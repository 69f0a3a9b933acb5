use Rattle.peer_laws.proofs.Heard.{counted-told}
use Rattle.peer_laws.proofs.laws.hearing.what_is_told_was_counted.Goals as goal

pub returns : goal.returns
returns g c = λ config p s there. counted-told config p s there
