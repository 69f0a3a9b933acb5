use Rattle.std.proofs.Common.{refl}
use Rattle.paint_rules.proofs.Computing.{computing}
use Rattle.paint_rules.proofs.worked.not_going.Goals as goal

pub returns : goal.returns
unfolding computing
returns c = record { north = refl; east = refl; south = refl; west = refl; wall = refl; player = refl }
