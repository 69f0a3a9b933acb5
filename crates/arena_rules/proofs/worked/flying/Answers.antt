use Rattle.std.proofs.Common.{refl}
use Rattle.arena_rules.proofs.Computing.{computing}
use Rattle.arena_rules.proofs.worked.flying.Goals as goal

pub returns : goal.returns
unfolding computing
returns c = record { north = refl; east = refl; south = refl; west = refl; last_cell = refl; wall = refl; edge = refl; the_dead = refl; pickup = refl }
