use Rattle.peer_window.proofs.Beside.{calls-beside}
use Rattle.peer_window.proofs.laws.beside_it_stands_a_session_that_remembers_all.Goals as goal

pub returns : goal.returns
returns g c = λ terms es n v beside. calls-beside g.G.Game.rules terms es n v beside
