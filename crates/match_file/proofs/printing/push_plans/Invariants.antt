use Rattle.std.proofs.Common.{◌≡◌, ◌++◌, map, take}
use Rattle.tss_io.specs.Lines.{lines_text}
use Rattle.match_file.specs.Text.{plan_line}
use Rattle.match_file.proofs.printing.push_plans.Given as goal

abbrev pub invariant-loop-plan : goal.invariant-loop-plan
invariant-loop-plan l = l.out.items ≡ l.fn.out.items ++ lines_text (map plan_line (take l.plan-index l.plans))
