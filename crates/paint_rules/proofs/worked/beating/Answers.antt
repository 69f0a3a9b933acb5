use Rattle.std.proofs.Common.{refl}
use Rattle.paint_rules.proofs.Computing.{computing}
use Rattle.paint_rules.proofs.worked.beating.Goals as goal

pub returns : goal.returns
unfolding computing
returns c = record { pickups = refl; first = refl; last = refl; past = refl }
