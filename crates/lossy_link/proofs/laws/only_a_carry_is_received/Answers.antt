use Rattle.lossy_link.proofs.OnlyCarried.{only-carried}
use Rattle.lossy_link.proofs.laws.only_a_carry_is_received.Goals as goal

pub returns : goal.returns
returns g c = λ m opening n line from to h there a b apart other. only-carried m n.links line from to h.links there a b apart other
