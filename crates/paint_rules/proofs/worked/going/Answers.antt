use Rattle.std.proofs.Common.{refl}
use Rattle.paint_rules.proofs.Computing.{computing}
use Rattle.paint_rules.proofs.worked.going.Goals as goal

pub returns : goal.returns
unfolding computing
returns c = record { north = refl; east = refl; south = refl; west = refl; second_player = refl; taken_over = refl }
