use Rattle.peer_calls.proofs.Called.{heard-call}
use Rattle.peer_calls.proofs.laws.hearing_a_packet_is_a_call.Goals as goal

pub returns : goal.returns
returns g c = λ config terms n s which p at room to there. heard-call g.G.Game.rules config terms n s which p at room to there
