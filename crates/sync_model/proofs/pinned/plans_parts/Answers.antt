use Rattle.sync_model.proofs.Alone.{plans-parts, no_plan-alone, nine_plans-alone, no_schedule-alone, other_width-alone, other_copies-alone}
use Rattle.sync_model.proofs.pinned.plans_parts.Goals as goal

pub returns : goal.returns
returns c =
    record {
      parts = λ plans ticks copies. plans-parts plans ticks copies;
      no_plan = no_plan-alone;
      nine_plans = nine_plans-alone;
      no_schedule = no_schedule-alone;
      other_width = other_width-alone;
      other_copies = other_copies-alone;
    }
