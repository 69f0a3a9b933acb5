use Rattle.endless_mirror.proofs.Talk.{session-whole}
use Rattle.endless_mirror.proofs.laws.a_session_is_that_of_a_whole.Goals as goal

pub returns : goal.returns
returns g c = λ opening m number n rs is long fits. session-whole g.G.Game.rules opening m number n rs is long fits
