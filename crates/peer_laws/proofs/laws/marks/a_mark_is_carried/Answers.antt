use Rattle.peer_laws.proofs.Marks.{marks-rise, mark-carried}
use Rattle.peer_laws.proofs.laws.marks.a_mark_is_carried.Goals as goal

pub returns : goal.returns
returns g c = λ config sum to room s rise. (marks-rise sum s rise, λ e. mark-carried config sum to room s e)
