use Rattle.std.proofs.Common.{◌++◌, ap, ◌∙◌, []}
use Rattle.std.proofs.lemmas.Result.{on_ok_weaker}
use Rattle.tss_io.specs.Lines.{as_line}
use Rattle.watch_board.proofs.Places.{seen-in_place, removed-in_place}
use Rattle.watch_board.proofs.board.Board.let_go.Goals as goal

pub returns-clause-without : goal.returns-clause-without
returns-clause-without g c = removed-in_place _ _ _ _ c.remove-gone.ensures.items

pub returns-clause-ok : goal.returns-clause-ok
returns-clause-ok g c = on_ok_weaker c.push_line_of.result
    (λ appended front behind one e p. appended
    ∙ ap (λ w. c.args.out.now.items ++ as_line (w.line []))
    (seen-in_place _ _ _ _ c.remove-gone.ensures.value front behind one e p))
    c.push_line_of.ensures.ok
