-- Plans that numbers spell.
use Rattle.std.specs.Prelude.{◌≡◌, ◌<◌, ◌≤◌, ℕ, List, length}
use Rattle.game_trait.specs.declared.limits.TheConstants.{MOST_PLANS}
use Rattle.std.specs.List.{AllByRecursion}
use Rattle.sync_model.specs.Schedule.{IsSchedule}
use Rattle.sync_model.specs.Lists.{joined}

-- 1 to 8 plans of so many copies each, which the delays spell, and each a schedule with the length
pub record ArePlans (delays : List ℕ) (copies ticks : ℕ) (plans : List (List ℕ)) : Type 0 where
  pub some_plan : 0 < length plans
  pub few_plans : length plans ≤ MOST_PLANS
  pub spelled : joined plans ≡ delays
  pub as_many : AllByRecursion (λ plan. length plan ≡ copies) plans
  pub schedules : AllByRecursion (λ plan. IsSchedule (record { delays = plan; length = ticks })) plans
