use Rattle.std.proofs.Common.{refl}
use Rattle.arena_rules.proofs.Computing.{computing}
use Rattle.arena_rules.proofs.worked.hitting.Goals as goal

pub returns : goal.returns
unfolding computing
returns c = record { hit = refl; killed = refl; by_a_dead_player = refl; own_hit = refl; own_death = refl; richest = refl; poorest = refl }
