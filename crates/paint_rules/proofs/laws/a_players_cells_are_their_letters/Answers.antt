use Rattle.paint_rules.proofs.Letters.{letters}
use Rattle.paint_rules.proofs.laws.a_players_cells_are_their_letters.Goals as goal

pub returns : goal.returns
returns c = λ world player is few. letters world.grid world.owners is.grid is.owners player few
