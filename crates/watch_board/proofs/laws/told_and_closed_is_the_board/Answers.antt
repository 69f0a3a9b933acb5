use Rattle.watch_board.proofs.Told.{board-closed}
use Rattle.watch_board.proofs.laws.told_and_closed_is_the_board.Goals as goal

pub returns : goal.returns
returns c = board-closed
