use Rattle.peer_laws.proofs.Differing.{heard-sees, made-sees}
use Rattle.peer_laws.proofs.laws.marks.the_first_difference_stays.Goals as goal

pub returns : goal.returns
returns g c = record { heard = λ config p s x e. heard-sees config p s x e; made = λ sum j s e. made-sees sum j s e }
