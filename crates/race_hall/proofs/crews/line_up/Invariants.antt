use Rattle.std.proofs.Common.{◌-◌}
use Rattle.std.specs.List.{AllZip}
use Rattle.race_hall.specs.Race.{count_from}
use Rattle.race_hall.specs.Raced.{course_of}
use Rattle.race_hall.specs.Crews.{IsPlanOf}
use Rattle.race_hall.specs.FeederJobs.{HasPlan, Lines}
use Rattle.race_hall.proofs.crews.line_up.Given as goal

abbrev pub invariant-loop-mirror : goal.invariant-loop-mirror
invariant-loop-mirror l = record {
  plans : AllZip (IsPlanOf (course_of l.m)) (count_from l.mirror (l.m.mirrors - l.mirror)) l.plans.rest.items;
  each : AllZip (HasPlan (course_of l.m) l.budget) (count_from 0 l.mirror) l.jobs.items;
  lines : Lines l.fn.sends.items l.sends.rest.items l.fn.rows.items l.rows.rest.items l.jobs.items;
}
