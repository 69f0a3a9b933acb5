use Rattle.race_hall.proofs.Worked.{raced-nothing}
use Rattle.race_hall.proofs.laws.workers_may_do_nothing.Goals as goal

pub returns : goal.returns
returns g c = λ course opening spare m. raced-nothing course opening spare m
