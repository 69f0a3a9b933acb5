use Rattle.std.proofs.Common.{refl}
use Rattle.paint_rules.proofs.Computing.{computing}
use Rattle.paint_rules.proofs.worked.shooting.Goals as goal

pub returns : goal.returns
unfolding computing
returns c = record { three = refl; over_a_player = refl; second_player = refl; to_a_wall = refl; at_a_wall = refl; to_the_end = refl; at_the_end = refl }
