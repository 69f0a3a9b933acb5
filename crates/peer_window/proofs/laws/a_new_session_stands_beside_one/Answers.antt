use Rattle.peer_window.proofs.Starts.{new-beside}
use Rattle.peer_window.proofs.laws.a_new_session_stands_beside_one.Goals as goal

pub returns : goal.returns
returns g c = λ slots n opening each some window long. new-beside g.G.Game.rules slots n opening each some window long
