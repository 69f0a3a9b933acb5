use Rattle.rolling_mirror.specs.Rolling.{last_tick}
use Rattle.peer_join.proofs.Taken.{all-taken}
use Rattle.peer_join.proofs.laws.what_is_handed_over_is_taken.Goals as goal

pub returns : goal.returns
returns g c = λ config s world me plans past none o. all-taken (last_tick s.roll) config.terms.slots s.queues past none o
