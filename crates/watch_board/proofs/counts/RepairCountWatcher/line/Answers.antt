use Rattle.std.proofs.Common.{rules, arith}
use Rattle.watch_board.proofs.Counting.{repairs_line-none}
use Rattle.watch_board.proofs.counts.RepairCountWatcher.line.Goals as goal

pub returns-clause-ok : goal.returns-clause-ok
returns-clause-ok c = rw (repairs_line-none c.args.self.now.count (omega arith)) (search rules)
