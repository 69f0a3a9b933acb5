use Rattle.std.proofs.Common.{refl}
use Rattle.arena_rules.proofs.Computing.{computing}
use Rattle.arena_rules.proofs.worked.shots_before_the_dead.Goals as goal

pub returns : goal.returns
unfolding computing
returns c = refl
