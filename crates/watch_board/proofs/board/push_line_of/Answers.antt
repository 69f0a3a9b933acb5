use Rattle.watch_board.proofs.Places.{line-appended}
use Rattle.watch_board.proofs.board.push_line_of.Goals as goal

pub returns-in-Ok-clause-ok : goal.returns-in-Ok-clause-ok
returns-in-Ok-clause-ok g c = let l = c.in_ok-push_words_of.ensures in line-appended _ _ _ _ l.ok c.in-Ok.ensures.items
