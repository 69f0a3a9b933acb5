use Rattle.std.proofs.Common.{ap, ◌∙◌}
use Rattle.watch_board.specs.Behaviour.{leaves, told}
use Rattle.watch_board.proofs.Places.{seen-in_place, set-in_place, told-by_parts}
use Rattle.watch_board.proofs.board.Board.leaves_from.Goals as goal

pub returns-clause-told : goal.returns-clause-told
returns-clause-told g c = λ front behind one e p.
    let w = c.index_mut.result.now in
    let before = (goal.Watcher-dyn g (w.vtable, w.value)).behaviour w.value in
    let same = seen-in_place _ _ _ _ c.index_mut.ensures.value front behind one e p in (
      c.leaves.ensures.left ∙ ap (leaves c.args.note.now) same,
      set-in_place _ _ _ _ _
          (told-by_parts c.args.note.now before _ c.leaves.ensures.answers c.leaves.ensures.lines ∙ ap (told c.args.note.now) same)
          front behind one e p,
    )
