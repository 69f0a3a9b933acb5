use Rattle.std.proofs.Common.{refl}
use Rattle.arena_rules.proofs.Computing.{computing}
use Rattle.arena_rules.proofs.worked.two_shots.Goals as goal

pub returns : goal.returns
unfolding computing
returns c = record { ann_first = refl; cat_first = refl }
