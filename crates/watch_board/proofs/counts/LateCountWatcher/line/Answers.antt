use Rattle.std.proofs.Common.{rules, arith}
use Rattle.watch_board.proofs.Counting.{late_line-none}
use Rattle.watch_board.proofs.counts.LateCountWatcher.line.Goals as goal

pub returns-clause-ok : goal.returns-clause-ok
returns-clause-ok c = rw (late_line-none c.args.self.now.count (omega arith)) (search rules)
