use Rattle.endless_mirror.proofs.Whole.{request-window}
use Rattle.endless_mirror.proofs.laws.requests_are_those_of_a_whole.Goals as goal

pub returns : goal.returns
returns g c = λ whole s r is h before fits known. request-window g.G.Game.rules whole s r is h before fits known
