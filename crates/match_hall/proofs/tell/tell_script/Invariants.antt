use Rattle.std.proofs.Common.{map}
use Rattle.match_hall.proofs.Telling.{IsToldTo}
use Rattle.match_hall.proofs.tell.tell_script.Given as goal

abbrev pub invariant-loop-line : goal.invariant-loop-line
invariant-loop-line g l =
    IsToldTo l.m l.number l.script l.line-index l.fn.mirror l.mirror
    (map (λ w. (goal.Watcher-dyn g (w.vtable, w.value)).behaviour w.value) l.fn.board.watchers.items)
    (map (λ w. (goal.Watcher-dyn g (w.vtable, w.value)).behaviour w.value) l.board.watchers.items)
    l.fn.out.items l.out.items
