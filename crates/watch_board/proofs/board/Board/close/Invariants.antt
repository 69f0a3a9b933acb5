use Rattle.std.proofs.Common.{◌≡◌, ◌++◌, map, take}
use Rattle.watch_board.specs.Board.{last_lines}
use Rattle.watch_board.proofs.board.Board.close.Given as goal

abbrev pub invariant-loop-watcher : goal.invariant-loop-watcher
invariant-loop-watcher g l =
    l.out.items ≡ l.fn.out.items
    ++ last_lines (map (λ w. (goal.Watcher-dyn g (w.vtable, w.value)).behaviour w.value) (take l.watcher-index l.watcher-items))
