use Rattle.std.proofs.Common.{length}
use Rattle.run_auditor.specs.Walks.{WentOn}
use Rattle.run_auditor.proofs.auditing.walk_log.Given as goal

abbrev pub invariant-loop-place : goal.invariant-loop-place
invariant-loop-place g l = WentOn l.fn.walk l.walk

abbrev pub decreases-loop-place : goal.decreases-loop-place
decreases-loop-place g l = length l.walk.left
