use Rattle.peer_calls.proofs.Turns.{step-call}
use Rattle.peer_calls.proofs.laws.a_step_is_a_call.Goals as goal

pub returns : goal.returns
returns g c = λ terms n s copy at there. step-call g.G.Game.rules terms n s copy at there
