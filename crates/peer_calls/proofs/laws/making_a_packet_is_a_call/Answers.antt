use Rattle.peer_calls.proofs.Called.{made-call}
use Rattle.peer_calls.proofs.laws.making_a_packet_is_a_call.Goals as goal

pub returns : goal.returns
returns g c = λ config terms n s to room at slots none. made-call g.G.Game.rules config terms n s to room at slots none
