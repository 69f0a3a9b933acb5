use Rattle.peer_calls.proofs.Turns.{restagger-call}
use Rattle.peer_calls.proofs.laws.another_plan_is_a_call.Goals as goal

pub returns : goal.returns
returns g c = λ terms n s plan at there. restagger-call g.G.Game.rules terms n s plan at there
