use Rattle.peer_join.proofs.Same.{accepted-same}
use Rattle.peer_join.proofs.laws.what_a_joiner_accepts_is_what_the_maker_had.Goals as goal

pub returns : goal.returns
returns g c = λ slots log m rise here. accepted-same slots log m rise here
