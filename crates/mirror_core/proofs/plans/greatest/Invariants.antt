use Rattle.std.proofs.Common.{◌≡◌, ◌≤◌, max, take, drop}
use Rattle.std.specs.List.{AllByRecursion}
use Rattle.game_trait.specs.declared.limits.TheConstants.{LONGEST_DELAY}
use Rattle.sync_model.specs.Schedule.{IsSchedule}
use Rattle.sync_model.specs.Staggered.{greatest_delay}
use Rattle.mirror_core.specs.Kept.{delays_of_each}
use Rattle.mirror_core.proofs.plans.greatest.Given as goal

abbrev pub invariant-loop-plan : goal.invariant-loop-plan
invariant-loop-plan l = record {
  greatest :
      max l.greatest (greatest_delay (delays_of_each (drop l.plan-index l.plans)))
      ≡ greatest_delay (delays_of_each l.plans);
  short : l.greatest ≤ LONGEST_DELAY;
  schedules : AllByRecursion IsSchedule (take l.plan-index l.plans);
}
