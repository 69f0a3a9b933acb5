use Rattle.std.proofs.Common.{refl}
use Rattle.paint_rules.proofs.Computing.{computing}
use Rattle.paint_rules.proofs.worked.opening.Goals as goal

pub returns : goal.returns
unfolding computing
returns c = refl
