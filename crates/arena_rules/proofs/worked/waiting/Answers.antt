use Rattle.std.proofs.Common.{refl}
use Rattle.arena_rules.proofs.Computing.{computing}
use Rattle.arena_rules.proofs.worked.waiting.Goals as goal

pub returns : goal.returns
unfolding computing
returns c = record { pickups = refl; first = refl; longest_match = refl; last = refl; past = refl }
