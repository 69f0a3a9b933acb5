use Rattle.std.proofs.Common.{refl}
use Rattle.arena_rules.proofs.Computing.{computing}
use Rattle.arena_rules.proofs.worked.taking.Goals as goal

pub returns : goal.returns
unfolding computing
returns c = record { ammo = refl; nine_shots = refl; heal = refl; whole = refl; gold = refl; richest = refl; waiting = refl; not_by_standing = refl }
