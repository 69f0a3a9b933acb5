use Rattle.watch_board.proofs.Places.{on_err-since}
use Rattle.watch_board.proofs.Closing.{last_lines-none, last_lines-next, IsClosedShort-at}
use Rattle.watch_board.proofs.board.Board.close.Goals as goal

pub loop-watcher-init : goal.loop-watcher-init
loop-watcher-init g c = last_lines-none c.args.out.now.items

pub loop-watcher-preserved : goal.loop-watcher-preserved
loop-watcher-preserved g c =
    last_lines-next _ c.deref-watcher-items.result.now c.loop-watcher.watcher-index _ _ _ _ c.loop-watcher-test.true c.watcher-item.is
    c.loop-watcher.invariant c.in_ok-push_line_of.ensures.ok

pub returns-in_err-push_line_of-clause-err : goal.returns-in_err-push_line_of-clause-err
returns-in_err-push_line_of-clause-err g c =
    on_err-since c.from_residual.result _
    (IsClosedShort-at _ _ _ c.loop-watcher.watcher-index _ _ _ _ c.deref-watcher-items.ensures.value
    c.loop-watcher-test.true c.watcher-item.is c.loop-watcher.invariant c.in_err-push_line_of.ensures.err)
