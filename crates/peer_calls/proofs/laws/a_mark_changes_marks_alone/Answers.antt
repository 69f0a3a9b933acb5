use Rattle.peer_calls.proofs.Turns.{mark-alone}
use Rattle.peer_calls.proofs.laws.a_mark_changes_marks_alone.Goals as goal

pub returns : goal.returns
returns g c = λ sum s. mark-alone sum s
