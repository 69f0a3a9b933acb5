-- Plans that are taken from the front of delays, one after another.
use Rattle.std.proofs.Common.{sym, ap, subst, ◌∙◌, ◌≡◌, refl, ℕ, zero, suc, ◌+◌, ◌<◌, ◌≤◌, arith}
use Rattle.std.proofs.Common.{List, [], ◌∷◌, ◌++◌, length, take, drop, append-nil, append_assoc}
use Rattle.std.specs.List.{AllByRecursion}
use Rattle.std.proofs.lemmas.List.{length-map}
use Rattle.game_trait.specs.declared.limits.TheConstants.{MOST_PLANS}
use Rattle.sync_model.specs.Schedule.{Schedule, IsSchedule, delays_of_each, ticks_of_first, copies_of_first}
use Rattle.tss_base.proofs.ListLaws.{all_push, all_map}
use Rattle.host_parts.specs.Rising.{ArePlans}
use Rattle.sync_model.specs.Lists.{joined}

-- one plan more
pub joined-push : (plans : List Schedule) (plan : Schedule) → joined (delays_of_each (plans ++ plan ∷ [])) ≡ joined (delays_of_each plans) ++ plan.delays
unfolding joined
joined-push [] plan = append-nil plan.delays
joined-push (p ∷ plans) plan = ap (λ (ds : List ℕ). p.delays ++ ds) (joined-push plans plan) ∙ sym (append_assoc p.delays (joined (delays_of_each plans)) plan.delays)

-- plans that were made of the front of delays, so many of each, and the delays that are left
pub record AreMade (delays : List ℕ) (copies ticks : ℕ) (plans : List Schedule) (left : List ℕ) : Type 0 where
  pub spelled : joined (delays_of_each plans) ++ left ≡ delays
  pub as_many : AllByRecursion (λ plan. length plan.delays ≡ copies) plans
  pub schedules : AllByRecursion (λ plan. IsSchedule (record { delays = plan.delays; length = ticks })) plans
  pub ticks_each : AllByRecursion (λ plan. plan.length ≡ ticks) plans

pub made-none : (delays : List ℕ) (copies ticks : ℕ) → AreMade delays copies ticks [] delays
unfolding joined
made-none delays copies ticks = record { spelled = refl; as_many = tt; schedules = tt; ticks_each = tt }

pub made-push : (delays : List ℕ) (copies ticks : ℕ) (plans : List Schedule) (left plan more : List ℕ) → AreMade delays copies ticks plans left
    → left ≡ plan ++ more → length plan ≡ copies → IsSchedule (record { delays = plan; length = ticks })
    → AreMade delays copies ticks (plans ++ record { delays = plan; length = ticks } ∷ []) more
made-push delays copies ticks plans left plan more h cut many is =
    let last : Schedule = record { delays = plan; length = ticks } in
    record {
      spelled = ap (λ (ds : List ℕ). ds ++ more) (joined-push plans last) ∙ append_assoc (joined (delays_of_each plans)) plan more
          ∙ ap (λ (ds : List ℕ). joined (delays_of_each plans) ++ ds) (sym cut) ∙ h.spelled;
      as_many = all_push (λ (p : Schedule). length p.delays ≡ copies) plans last h.as_many many;
      schedules = all_push (λ (p : Schedule). IsSchedule (record { delays = p.delays; length = ticks })) plans last h.schedules is;
      ticks_each = all_push (λ (p : Schedule). p.length ≡ ticks) plans last h.ticks_each refl;
    }

take-drop : {X : Type 0} (n : ℕ) (xs : List X) → take n xs ++ drop n xs ≡ xs
take-drop zero xs = refl
take-drop (suc n) [] = refl
take-drop {X = X} (suc n) (x ∷ xs) = ap (λ (ys : List X). x ∷ ys) (take-drop n xs)

length-front : {X : Type 0} (n : ℕ) (xs : List X) → n ≤ length xs → length (take n xs) ≡ n
length-front zero xs h = refl
length-front (suc n) [] h = absurd (omega arith)
length-front (suc n) (x ∷ xs) h = ap suc (length-front n xs (omega arith))

pub length-push : (plans : List Schedule) (plan : Schedule) → length (plans ++ plan ∷ []) ≡ length plans + 1
length-push [] plan = omega arith
length-push (p ∷ plans) plan = let rest = length-push plans plan in omega (arith, rest)

-- with the plan in front of what is left
pub made-next : (delays : List ℕ) (copies ticks : ℕ) (plans new : List Schedule) (left more : List ℕ) (last : Schedule) → AreMade delays copies ticks plans left
    → last ≡ record { delays = take copies left; length = ticks } → copies ≤ length left → IsSchedule last → new ≡ plans ++ last ∷ [] → more ≡ drop copies left
    → AreMade delays copies ticks new more
made-next delays copies ticks plans new left more last h this room is put back =
    let plan : List ℕ = take copies left in
    let cut : left ≡ plan ++ more = sym (take-drop copies left) ∙ ap (λ (m : List ℕ). plan ++ m) (sym back) in
    subst (λ (ns : List Schedule). AreMade delays copies ticks ns more) (sym (put ∙ ap (λ (l : Schedule). plans ++ l ∷ []) this))
    (made-push delays copies ticks plans left plan more h cut (length-front copies left room) (subst IsSchedule this is))

-- with the plan in front of all
pub made-first : (delays : List ℕ) (copies ticks : ℕ) (new : List Schedule) (more : List ℕ) (first : Schedule)
    → first ≡ record { delays = take copies delays; length = ticks } → copies ≤ length delays → IsSchedule first → new ≡ first ∷ [] → more ≡ drop copies delays
    → AreMade delays copies ticks new more
made-first delays copies ticks new more first this room is put back =
    made-next delays copies ticks [] new delays more first (made-none delays copies ticks) this room is put back

none-of : (xs : List ℕ) → length xs ≡ 0 → xs ≡ []
none-of [] h = refl
none-of (x ∷ xs) h = absurd (omega (arith, h))

pub made-plans : (delays : List ℕ) (copies ticks : ℕ) (plans : List Schedule) (left : List ℕ) → AreMade delays copies ticks plans left
    → length left ≡ 0 → 0 < length plans → length plans ≤ MOST_PLANS → ArePlans delays copies ticks (delays_of_each plans)
made-plans delays copies ticks plans left h none some few =
    record {
      some_plan = omega (arith, length-map plans (λ (p : Schedule). p.delays));
      few_plans = omega (arith, length-map plans (λ (p : Schedule). p.delays));
      spelled = sym (append-nil (joined (delays_of_each plans))) ∙ ap (λ (ds : List ℕ). joined (delays_of_each plans) ++ ds) (sym (none-of left none)) ∙ h.spelled;
      as_many = all_map (λ (ds : List ℕ). length ds ≡ copies) (λ (p : Schedule). p.delays) plans h.as_many;
      schedules = all_map (λ (ds : List ℕ). IsSchedule (record { delays = ds; length = ticks })) (λ (p : Schedule). p.delays) plans h.schedules;
    }

-- plans with one length and as many copies, as a mirror takes them
first-ticks : (plans : List Schedule) (n : ℕ) → 0 < length plans → AllByRecursion (λ plan. plan.length ≡ n) plans → ticks_of_first plans ≡ n
first-ticks [] n some all = absurd (omega (arith, some))
first-ticks (p ∷ plans) n some all = all.0

first-copies : (plans : List Schedule) (n : ℕ) → 0 < length plans → AllByRecursion (λ plan. length plan.delays ≡ n) plans → copies_of_first plans ≡ n
first-copies [] n some all = absurd (omega (arith, some))
first-copies (p ∷ plans) n some all = all.0

some-plans : (plans : List Schedule) → 0 < length (delays_of_each plans) → 0 < length plans
some-plans [] some = some
some-plans (p ∷ plans) some = omega arith

pub equal-ticks : (delays : List ℕ) (copies ticks : ℕ) (plans given : List Schedule) → ArePlans delays copies ticks (delays_of_each plans)
    → AllByRecursion (λ plan. plan.length ≡ ticks) plans → given ≡ plans → AllByRecursion (λ plan. plan.length ≡ ticks_of_first given) given
equal-ticks delays copies ticks plans given are all same =
    subst (λ (ps : List Schedule). AllByRecursion (λ plan. plan.length ≡ ticks_of_first ps) ps) (sym same)
    (subst (λ (n : ℕ). AllByRecursion (λ plan. plan.length ≡ n) plans) (sym (first-ticks plans ticks (some-plans plans are.some_plan) all)) all)

pub equal-copies : (delays : List ℕ) (copies ticks : ℕ) (plans given : List Schedule) → ArePlans delays copies ticks (delays_of_each plans)
    → AllByRecursion (λ plan. length plan.delays ≡ copies) plans → given ≡ plans → AllByRecursion (λ plan. length plan.delays ≡ copies_of_first given) given
equal-copies delays copies ticks plans given are all same =
    subst (λ (ps : List Schedule). AllByRecursion (λ plan. length plan.delays ≡ copies_of_first ps) ps) (sym same)
    (subst (λ (n : ℕ). AllByRecursion (λ plan. length plan.delays ≡ n) plans) (sym (first-copies plans copies (some-plans plans are.some_plan) all)) all)

-- and the length of the state that it opens with
pub opens-with : (delays : List ℕ) (copies ticks : ℕ) (plans given : List Schedule) → ArePlans delays copies ticks (delays_of_each plans)
    → AllByRecursion (λ plan. plan.length ≡ ticks) plans → given ≡ plans → ticks_of_first given ≡ ticks
opens-with delays copies ticks plans given are all same =
    ap (λ (ps : List Schedule). ticks_of_first ps) same ∙ first-ticks plans ticks (some-plans plans are.some_plan) all

pub ruleset opened = (opens-with)
