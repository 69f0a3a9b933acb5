use Rattle.peer_model.proofs.Progress.{heard-whole}
use Rattle.peer_model.proofs.laws.progress.a_whole_part_is_had.Goals as goal

pub returns : goal.returns
returns c = λ bound most p q whole. heard-whole bound most p q whole
