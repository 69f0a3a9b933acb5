use Rattle.endless_mirror.proofs.Telling.{told-of-whole}
use Rattle.endless_mirror.proofs.laws.what_is_told_is_told_of_the_whole.Goals as goal

pub returns : goal.returns
returns g c = λ lines names whole s r is fits. told-of-whole g.G.Game.rules lines names whole s is r fits
