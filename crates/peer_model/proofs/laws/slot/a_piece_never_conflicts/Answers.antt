use Rattle.peer_model.proofs.Pieces.{no-conflict}
use Rattle.peer_model.proofs.laws.slot.a_piece_never_conflicts.Goals as goal

pub returns : goal.returns
returns c = λ issued p q rise front is. no-conflict issued p q rise front is
