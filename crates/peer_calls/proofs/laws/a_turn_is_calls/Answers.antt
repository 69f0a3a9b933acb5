use Rattle.peer_calls.proofs.Turns.{turn-goes}
use Rattle.peer_calls.proofs.laws.a_turn_is_calls.Goals as goal

pub returns : goal.returns
returns g c = λ config terms n s at keep. turn-goes g.G.Game.rules config terms n s at keep
