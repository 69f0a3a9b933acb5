use Rattle.std.proofs.Common.{◌-◌, map, length}
use Rattle.watch_board.specs.Board.{IsOnWay}
use Rattle.watch_board.proofs.board.Board.take.Given as goal

abbrev pub invariant-loop-place : goal.invariant-loop-place
invariant-loop-place g l =
    IsOnWay l.note
    (map (λ w. (goal.Watcher-dyn g (w.vtable, w.value)).behaviour w.value) l.fn.self.watchers.items)
    (map (λ w. (goal.Watcher-dyn g (w.vtable, w.value)).behaviour w.value) l.self.watchers.items)
    l.place l.fn.out.items l.out.items

abbrev pub decreases-loop-place : goal.decreases-loop-place
decreases-loop-place g l = length l.self.watchers.items - l.place
