use Rattle.std.proofs.Common.{◌≡◌, pos, [], ◌∷◌, refl}
use Rattle.game_trait.specs.declared.command.Act.{Act}
use Rattle.game_trait.specs.declared.command.Act.TheVariants.{Go, Left, Right, Shoot, Dash}
use Rattle.arena_rules.specs.Command.{applied}
use Rattle.arena_rules.specs.Worked.{scene, dead, ann_home, alone_at}
use Rattle.match_setup.specs.Worked.{at, by}
use Rattle.match_setup.specs.declared.face.Face.TheVariants.{N}
use Rattle.arena_rules.proofs.Computing.{computing}
use Rattle.arena_rules.proofs.worked.nobody_acts.Goals as goal

by_the_dead : (act : Act) → applied (scene (dead ann_home 4 (pos 3) ∷ []) [] []) (by 0 act) ≡ scene (dead ann_home 4 (pos 3) ∷ []) [] []
unfolding computing
by_the_dead Go = refl
by_the_dead Left = refl
by_the_dead Right = refl
by_the_dead Shoot = refl
by_the_dead Dash = refl

by_nobody : (act : Act) → applied (alone_at (at 4 1 N)) (by 1 act) ≡ alone_at (at 4 1 N)
unfolding computing
by_nobody Go = refl
by_nobody Left = refl
by_nobody Right = refl
by_nobody Shoot = refl
by_nobody Dash = refl

pub returns : goal.returns
returns c = record { dead = by_the_dead; not_there = by_nobody }
