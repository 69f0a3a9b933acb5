use Rattle.std.proofs.Common.{map}
use Rattle.match_hall.proofs.Told.{IsPlayedTo}
use Rattle.match_hall.proofs.hall.tell_mirrors.Given as goal

abbrev pub invariant-loop-number : goal.invariant-loop-number
invariant-loop-number g l =
    IsPlayedTo l.m l.number l.fn.mirrors.items l.mirrors.items
    (map (λ w. (goal.Watcher-dyn g (w.vtable, w.value)).behaviour w.value) l.fn.board.watchers.items)
    (map (λ w. (goal.Watcher-dyn g (w.vtable, w.value)).behaviour w.value) l.board.watchers.items)
    l.fn.out.items l.out.items
