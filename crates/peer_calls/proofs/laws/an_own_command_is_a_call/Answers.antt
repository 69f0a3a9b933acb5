use Rattle.peer_calls.proofs.Issued.{own-issued}
use Rattle.peer_calls.proofs.laws.an_own_command_is_a_call.Goals as goal

pub returns : goal.returns
returns g c = λ config terms n s ahead time number bytes at room there is. own-issued g.G.Game.rules c.an_own_command_that_is_taken_is_a_call.ensures config terms n s ahead time number bytes at room there is
