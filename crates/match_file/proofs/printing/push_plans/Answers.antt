use Rattle.std.proofs.Common.{ℕ, List, ◌++◌, ap, ◌∙◌}
use Rattle.tss_io.specs.Lines.{as_line}
use Rattle.match_file.specs.Text.{plan_line}
use Rattle.tss_io.proofs.Printing.{lines_next}
use Rattle.match_file.proofs.printing.push_plans.Goals as goal

pub loop-plan-preserved : goal.loop-plan-preserved
loop-plan-preserved c =
    lines_next plan_line c.args.plans.now c.loop-plan.plan-index _ _ _ _ c.loop-plan-test.true c.loop-plan.invariant
    ((rw c.as_slice.ensures at c.in_ok-push_numbers.ensures) ∙ ap (λ (p : List ℕ). c.loop-plan.out.items ++ as_line (plan_line p)) c.plan-item.is)
