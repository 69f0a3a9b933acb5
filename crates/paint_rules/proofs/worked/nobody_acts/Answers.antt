use Rattle.std.proofs.Common.{◌≡◌, refl}
use Rattle.game_trait.specs.declared.command.Act.{Act}
use Rattle.game_trait.specs.declared.command.Act.TheVariants.{Go, Left, Right, Shoot, Dash}
use Rattle.match_setup.specs.Worked.{at, by}
use Rattle.match_setup.specs.declared.face.Face.TheVariants.{N}
use Rattle.paint_rules.specs.Owners.{unowned}
use Rattle.paint_rules.specs.Command.{applied}
use Rattle.paint_rules.specs.Worked.{alone}
use Rattle.paint_rules.proofs.Computing.{computing}
use Rattle.paint_rules.proofs.worked.nobody_acts.Goals as goal

by_nobody : (act : Act) → applied (alone (at 4 1 N) unowned) (by 1 act) ≡ alone (at 4 1 N) unowned
unfolding computing
by_nobody Go = refl
by_nobody Left = refl
by_nobody Right = refl
by_nobody Shoot = refl
by_nobody Dash = refl

pub returns : goal.returns
returns c = by_nobody
