use Rattle.paint_rules.proofs.Left.{leaves-applied}
use Rattle.paint_rules.proofs.laws.a_command_paints_for_its_player.Goals as goal

pub returns : goal.returns
returns c = λ world x cell. (leaves-applied world x).theirs cell
