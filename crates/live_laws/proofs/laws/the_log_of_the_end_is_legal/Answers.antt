use Rattle.live_laws.proofs.Audited.{audited}
use Rattle.live_laws.proofs.laws.the_log_of_the_end_is_legal.Goals as goal

pub returns : goal.returns
returns g c = λ opening m number rs commands is fit among. audited opening m number rs commands is fit among
