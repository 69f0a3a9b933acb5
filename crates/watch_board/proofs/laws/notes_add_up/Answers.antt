use Rattle.watch_board.proofs.Told.{AreTold-more}
use Rattle.watch_board.proofs.laws.notes_add_up.Goals as goal

pub returns : goal.returns
returns c = AreTold-more
