use Rattle.std.proofs.Common.{refl}
use Rattle.arena_rules.proofs.Computing.{computing}
use Rattle.arena_rules.proofs.worked.shooting.Goals as goal

pub returns : goal.returns
unfolding computing
returns c = record { fired = refl; by_bob = refl; last_one = refl; none_left = refl; beside_63 = refl; beside_64 = refl }
