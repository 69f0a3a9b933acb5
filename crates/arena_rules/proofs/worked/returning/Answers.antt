use Rattle.std.proofs.Common.{refl}
use Rattle.arena_rules.proofs.Computing.{computing}
use Rattle.arena_rules.proofs.worked.returning.Goals as goal

pub returns : goal.returns
unfolding computing
returns c = record { waits = refl; returns = refl; held = refl; still_held = refl; free_again = refl; one_home = refl }
