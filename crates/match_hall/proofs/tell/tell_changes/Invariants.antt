use Rattle.std.proofs.Common.{map, take}
use Rattle.watch_board.specs.Told.{AreTold}
use Rattle.match_hall.specs.Notes.{notes_with}
use Rattle.match_hall.proofs.tell.tell_changes.Given as goal

abbrev pub invariant-loop-place : goal.invariant-loop-place
invariant-loop-place g l =
    AreTold (notes_with l.number (take l.place l.events) (take l.place l.replies))
    (map (λ w. (goal.Watcher-dyn g (w.vtable, w.value)).behaviour w.value) l.fn.board.watchers.items)
    (map (λ w. (goal.Watcher-dyn g (w.vtable, w.value)).behaviour w.value) l.board.watchers.items)
    l.fn.out.items l.out.items
