-- The fixed parts of a mirror are those of a match.
use Rattle.std.specs.Prelude.{◌≡◌, ℕ, ◌≤◌, ◌<◌, List, length}
use Rattle.std.specs.List.{AllByRecursion}
use Rattle.game_trait.specs.declared.limits.TheConstants.{MOST_PLANS}
use Rattle.sync_model.specs.Schedule.{IsSchedule}
use Rattle.sync_model.specs.State.{MirrorState}

-- 1 to 8 plans, each with one delay for every copy, of which each is a schedule of the match
pub record ArePlans (plans : List (List ℕ)) (ticks copies : ℕ) : Type 0 where
  pub some_plan : 0 < length plans
  pub few_plans : length plans ≤ MOST_PLANS
  pub schedules :
      AllByRecursion (λ delays. IsSchedule (record { delays = delays; length = ticks })) plans
  pub equal_copies : AllByRecursion (λ delays. length delays ≡ copies) plans

-- the plans are those of a match with as many copies as there are runs, and the plan in force is
-- one of them; no event that fits changes that
pub record IsWellFormed {W : Type 0} (s : MirrorState W) : Type 0 where
  pub plans : ArePlans s.plans s.length (length s.runs)
  pub in_force : s.plan < length s.plans
