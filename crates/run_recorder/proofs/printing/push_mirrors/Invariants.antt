use Rattle.std.proofs.Common.{◌≡◌, ◌++◌, length}
use Rattle.run_recorder.specs.Text.{record_mirrors_text}
use Rattle.run_recorder.proofs.printing.push_mirrors.Given as goal

abbrev pub invariant-loop-log : goal.invariant-loop-log
invariant-loop-log l = l.out.items ++ record_mirrors_text l.logs l.worlds ≡ l.fn.out.items ++ record_mirrors_text l.fn.logs l.fn.worlds

abbrev pub decreases-loop-log : goal.decreases-loop-log
decreases-loop-log l = length l.logs
