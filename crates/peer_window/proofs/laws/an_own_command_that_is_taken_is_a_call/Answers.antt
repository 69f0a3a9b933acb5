use Rattle.peer_window.proofs.Owning.{own-call}
use Rattle.peer_window.proofs.laws.an_own_command_that_is_taken_is_a_call.Goals as goal

pub returns : goal.returns
returns g c = λ terms me start payload ahead time number bytes n there is. own-call g.G.Game.rules terms me start payload ahead time number bytes n there is
