use Rattle.run_recorder.proofs.PrintLaws.{mirrors_on, mirrors_end, worlds_end}
use Rattle.run_recorder.proofs.printing.push_mirrors.Goals as goal

pub returns-in_default-split_first : goal.returns-in_default-split_first
returns-in_default-split_first c = worlds_end _ _ _ _ _ _ c.in-Some.ensures.cases.0 c.in_default-split_first.ensures.cases c.loop-log.invariant

pub loop-log-preserved : goal.loop-log-preserved
loop-log-preserved c = mirrors_on _ _ _ _ _ _ _ _ _ c.in-Some.ensures.cases.0 c.in-Some-split_first.ensures.cases.0 (rw c.as_slice.ensures at c.in_ok-push_mirror.ensures) c.loop-log.invariant

pub returns : goal.returns
returns c = mirrors_end _ _ _ _ c.in_default.ensures.cases c.loop-log.invariant
