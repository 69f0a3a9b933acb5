use Rattle.endless_mirror.proofs.Whole.{request-exact}
use Rattle.endless_mirror.proofs.laws.every_request_is_one_of_a_whole.Goals as goal

pub returns : goal.returns
returns g c = λ whole s r is h before fits. request-exact g.G.Game.rules whole s r is h before fits
