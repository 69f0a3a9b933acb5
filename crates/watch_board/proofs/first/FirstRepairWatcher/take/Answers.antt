use Rattle.std.proofs.Common.{◌∙◌, ap, sym, arith, not}
use Rattle.watch_board.proofs.Counting.{first_line-none, first_line-known, first_line-now}
use Rattle.watch_board.proofs.first.FirstRepairWatcher.take.Goals as goal

pub returns-then-repaired_in-eq0-clause-lines : goal.returns-then-repaired_in-eq0-clause-lines
returns-then-repaired_in-eq0-clause-lines c = λ earlier.
    first_line-none c.args.self.now.mirror c.args.note.now earlier (sym c.repaired_in.ensures ∙ c.if-repaired_in-eq0.true)

pub returns-then-is_none-clause-lines : goal.returns-then-is_none-clause-lines
returns-then-is_none-clause-lines c = λ earlier.
    first_line-now c.args.self.now.mirror c.args.note.now earlier
    (c.is_none.ensures ∙ ap not c.if-is_none.true)
    (omega (arith, c.repaired_in.ensures, c.if-repaired_in-eq0.false))

pub returns-else-is_none-clause-lines : goal.returns-else-is_none-clause-lines
returns-else-is_none-clause-lines c = λ earlier.
    first_line-known c.args.self.now.mirror c.args.note.now earlier (c.is_none.ensures ∙ ap not c.if-is_none.false)
