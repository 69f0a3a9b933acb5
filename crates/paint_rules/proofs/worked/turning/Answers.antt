use Rattle.std.proofs.Common.{refl}
use Rattle.paint_rules.proofs.Computing.{computing}
use Rattle.paint_rules.proofs.worked.turning.Goals as goal

pub returns : goal.returns
unfolding computing
returns c = record { left_of_n = refl; left_of_w = refl; left_of_s = refl; left_of_e = refl; right_of_n = refl; right_of_e = refl; right_of_s = refl; right_of_w = refl }
