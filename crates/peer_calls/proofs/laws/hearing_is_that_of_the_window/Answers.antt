use Rattle.peer_calls.proofs.Heard.{heard-window}
use Rattle.peer_calls.proofs.laws.hearing_is_that_of_the_window.Goals as goal

pub returns : goal.returns
returns g c = λ config p s to. heard-window config p s to
