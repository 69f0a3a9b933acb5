-- What holds of the plans of a match.
use Rattle.std.proofs.Common.{◌≡◌, length, map, ℕ, ◌≤◌, List, [], ◌∷◌, refl, ap, arith}
use Rattle.std.specs.List.{AllByRecursion}
use Rattle.std.proofs.lemmas.List.{length-map}
use Rattle.game_trait.specs.declared.limits.TheConstants.{MOST_PLANS}
use Rattle.sync_model.specs.Schedule.{IsSchedule, delays_of_each, ticks_of_first, copies_of_first}
use Rattle.match_data.specs.Data.{MatchData, IsMatch, schedule_of, all_plans, schedules}

of-plans :
    (m : MatchData) (plans : List (List ℕ)) → AllByRecursion (λ p. IsSchedule (schedule_of m p) × (length p ≡ length m.delays)) plans
    → AllByRecursion (λ plan. plan.length ≡ m.length) (map (schedule_of m) plans) × AllByRecursion (λ plan. length plan.delays ≡ length m.delays) (map (schedule_of m) plans)
of-plans m [] each = (tt, tt)
of-plans m (p ∷ ps) each = (let rest = of-plans m ps each.1 in ((refl, rest.0), (each.0.1, rest.1)))

-- the plans of a match have as many ticks and as many copies
pub equal-ticks : (m : MatchData) → IsMatch m → AllByRecursion (λ plan. plan.length ≡ ticks_of_first (schedules m)) (schedules m)
equal-ticks m sound = (refl, (of-plans m m.plans sound.plans).0)

pub equal-copies : (m : MatchData) → IsMatch m → AllByRecursion (λ plan. length plan.delays ≡ copies_of_first (schedules m)) (schedules m)
equal-copies m sound = (refl, (of-plans m m.plans sound.plans).1)

pub few-plans : (m : MatchData) → IsMatch m → length (schedules m) ≤ MOST_PLANS
few-plans m sound = (let few = sound.plan_count in let many = length-map m.plans (schedule_of m) in omega arith)

pub delays-of_schedules : (m : MatchData) → delays_of_each (schedules m) ≡ all_plans m
delays-of_schedules m = ap (λ (ps : List (List ℕ)). m.delays ∷ ps) (each m.plans)
  where
    each : (ps : List (List ℕ)) → delays_of_each (map (schedule_of m) ps) ≡ ps
    each [] = refl
    each (p ∷ ps) = ap (λ (qs : List (List ℕ)). p ∷ qs) (each ps)
