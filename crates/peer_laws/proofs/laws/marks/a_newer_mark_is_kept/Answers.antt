use Rattle.peer_laws.proofs.Marked.{mark-kept}
use Rattle.peer_laws.proofs.laws.marks.a_newer_mark_is_kept.Goals as goal

pub returns : goal.returns
returns g c = λ config p s. mark-kept p.from p.mark s.marks
