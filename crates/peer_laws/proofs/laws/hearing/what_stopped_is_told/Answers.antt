use Rattle.peer_laws.proofs.Heard.{stops-told}
use Rattle.peer_laws.proofs.laws.hearing.what_stopped_is_told.Goals as goal

pub returns : goal.returns
returns g c = λ config p s. stops-told config p s
