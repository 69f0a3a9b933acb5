use Rattle.std.proofs.Common.{refl}
use Rattle.paint_rules.proofs.Computing.{computing}
use Rattle.paint_rules.proofs.worked.dashing.Goals as goal

pub returns : goal.returns
unfolding computing
returns c = record { two = refl; one = refl; none = refl; not_over = refl }
