-- The plans of a match: their delays, their greatest delay, and the one in force.
use Rattle.std.proofs.Common.{◌≡◌, ℕ, ◌+◌, ◌≤◌, ◌<◌, max, List, [], ◌∷◌, length}
use Rattle.std.proofs.Common.{get_or, drop, drop-cons, add-one, arith}
use Rattle.std.proofs.lemmas.List.{length-map, drop_all}
use Rattle.std.specs.List.{AllByRecursion}
use Rattle.game_trait.specs.declared.limits.TheConstants.{LONGEST_MATCH, MOST_PLANS, MOST_COPIES}
use Rattle.game_trait.specs.declared.limits.TheConstants.{LONGEST_DELAY}
use Rattle.game_trait.proofs.Lists.{all-at}
use Rattle.sync_model.specs.Schedule.{Schedule, IsSchedule, longest_delay}
use Rattle.sync_model.specs.Staggered.{greatest_delay}
use Rattle.sync_model.specs.WellFormed.{ArePlans}
use Rattle.stagger_clock.proofs.Limits.{longest_delay-short}
use Rattle.mirror_core.specs.Kept.{delays_of_each, ticks_of_first, copies_of_first}

pub as_many : (plans : List Schedule) → length (delays_of_each plans) ≡ length plans
as_many plans = length-map plans (λ (plan : Schedule). plan.delays)

-- each of several plans of as many ticks is a schedule of these
schedules-each :
    (plans : List Schedule) (ticks : ℕ) → AllByRecursion IsSchedule plans
    → AllByRecursion (λ plan. plan.length ≡ ticks) plans
    → AllByRecursion (λ delays. IsSchedule (record { delays = delays; length = ticks }))
    (delays_of_each plans)
schedules-each [] ticks are same = tt
schedules-each (plan ∷ plans) ticks are same =
    let equal : plan.length ≡ ticks = same.0 in (
      record {
        some_copy = are.0.some_copy;
        few_copies = are.0.few_copies;
        delays_rise = are.0.delays_rise;
        short_delays = are.0.short_delays;
        some_tick = (let some = are.0.some_tick in omega arith);
        few_ticks = (let few = are.0.few_ticks in omega arith);
      },
      schedules-each plans ticks are.1 same.1,
    )

copies-each :
    (plans : List Schedule) (copies : ℕ)
    → AllByRecursion (λ plan. length plan.delays ≡ copies) plans
    → AllByRecursion (λ delays. length delays ≡ copies) (delays_of_each plans)
copies-each [] copies each = tt
copies-each (plan ∷ plans) copies each = (each.0, copies-each plans copies each.1)

-- plans of one match
pub are_plans :
    (plans : List Schedule) (ticks copies : ℕ) → 0 < length plans → length plans ≤ MOST_PLANS
    → AllByRecursion IsSchedule plans
    → AllByRecursion (λ plan. plan.length ≡ ticks) plans
    → AllByRecursion (λ plan. length plan.delays ≡ copies) plans
    → ArePlans (delays_of_each plans) ticks copies
are_plans plans ticks copies some few are same each =
    let many = as_many plans in
    record {
      some_plan = omega arith;
      few_plans = omega arith;
      schedules = schedules-each plans ticks are same;
      equal_copies = copies-each plans copies each;
    }

-- no delay of a plan is longer than may be
pub greatest-short :
    (plans : List (List ℕ)) (ticks : ℕ)
    → AllByRecursion (λ delays. IsSchedule (record { delays = delays; length = ticks })) plans
    → greatest_delay plans ≤ LONGEST_DELAY
unfolding greatest_delay
greatest-short [] ticks are = omega arith
greatest-short (delays ∷ plans) ticks are =
    let here = longest_delay-short (record { delays = delays; length = ticks }) are.0 in
    let rest = greatest-short plans ticks are.1 in
    omega arith

-- the match of several plans isn't longer than may be
pub ticks-few :
    (plans : List (List ℕ)) (ticks copies : ℕ) → ArePlans plans ticks copies → ticks ≤ LONGEST_MATCH
ticks-few plans ticks copies are =
    (all-at (λ delays. IsSchedule (record { delays = delays; length = ticks })) plans 0 []
    are.schedules are.some_plan).few_ticks

-- the first plan's ticks and copies are those of a schedule
pub first-few :
    (plans : List Schedule) → 0 < length plans → AllByRecursion IsSchedule plans
    → (copies_of_first plans ≤ MOST_COPIES) × (ticks_of_first plans ≤ LONGEST_MATCH)
first-few [] some are = absurd (omega arith)
first-few (plan ∷ plans) some are = (are.0.few_copies, are.0.few_ticks)

-- the greatest delay, one plan more
pub greatest-more :
    (plans : List Schedule) (i greatest : ℕ) (d : Schedule) → i < length plans
    → max greatest (greatest_delay (delays_of_each (drop i plans)))
    ≡ max (max (longest_delay (get_or plans i d).delays) greatest)
    (greatest_delay (delays_of_each (drop (i + 1) plans)))
unfolding greatest_delay
greatest-more plans i greatest d within = rw (add-one, drop-cons plans i d within) (omega arith)

pub greatest-none :
    (plans : List Schedule) (i greatest : ℕ) → length plans ≤ i
    → max greatest (greatest_delay (delays_of_each (drop i plans))) ≡ greatest
unfolding greatest_delay
greatest-none plans i greatest past = rw (drop_all i plans past) (omega arith)
