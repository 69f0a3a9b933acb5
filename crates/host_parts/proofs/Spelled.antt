-- Which plans delays can spell: each begins with what stands in front of the delays, so there is one way at most.
use Rattle.std.specs.Prelude.{Option, Some, None, IfNone}
use Rattle.std.proofs.Common.{sym, ap, subst, ◌∙◌, ◌++◌, ◌≡◌, ℕ, suc, ◌+◌, take, drop, ◌<◌, ◌≤◌, List, [], ◌∷◌, length, refl, arith}
use Rattle.std.specs.List.{AllByRecursion}
use Rattle.game_trait.specs.declared.limits.TheConstants.{MOST_PLANS}
use Rattle.sync_model.specs.Schedule.{IsSchedule}
use Rattle.host_parts.specs.Rising.{ArePlans}
use Rattle.sync_model.specs.Lists.{joined}

-- plans of so many copies each, which the delays spell, and each a schedule
pub record IsSpelling (delays : List ℕ) (copies ticks : ℕ) (plans : List (List ℕ)) : Type 0 where
  pub spelled : joined plans ≡ delays
  pub as_many : AllByRecursion (λ plan. length plan ≡ copies) plans
  pub schedules : AllByRecursion (λ plan. IsSchedule (record { delays = plan; length = ticks })) plans

-- the front of the delays is a plan
pub record IsInFront (delays : List ℕ) (copies ticks : ℕ) : Type 0 where
  pub room : copies ≤ length delays
  pub schedule : IsSchedule (record { delays = take copies delays; length = ticks })

-- whatever plans the delays spell, those that come after so many spell what is left
abbrev pub LeavesOver : List ℕ → ℕ → ℕ → ℕ → List ℕ → Type 0
LeavesOver delays copies ticks count left =
    (ps : List (List ℕ)) → ArePlans delays copies ticks ps
    → (qs : List (List ℕ)) × (IsSpelling left copies ticks qs × (length ps ≡ count + length qs))

take-front : {X : Type 0} (xs ys : List X) → take (length xs) (xs ++ ys) ≡ xs
take-front [] ys = refl
take-front {X = X} (x ∷ xs) ys = ap (λ (zs : List X). x ∷ zs) (take-front xs ys)

drop-front : {X : Type 0} (xs ys : List X) → drop (length xs) (xs ++ ys) ≡ ys
drop-front [] ys = refl
drop-front (x ∷ xs) ys = drop-front xs ys

long-front : (xs ys : List ℕ) → length xs ≤ length (xs ++ ys)
long-front [] ys = omega arith
long-front (x ∷ xs) ys = let rest = long-front xs ys in omega (arith, rest)

-- the first of the plans that delays spell is in front of them, and the others spell what is behind it
first-in-front : (left : List ℕ) (copies ticks : ℕ) (q : List ℕ) (qs : List (List ℕ)) → IsSpelling left copies ticks (q ∷ qs)
    → IsInFront left copies ticks × IsSpelling (drop copies left) copies ticks qs
unfolding joined
first-in-front left copies ticks q qs h =
    let same : q ++ joined qs ≡ left = h.spelled in
    let many : length q ≡ copies = h.as_many.0 in
    let front : take copies left ≡ q =
    ap (λ (n : ℕ). take n left) (sym many) ∙ ap (λ (ds : List ℕ). take (length q) ds) (sym same) ∙ take-front q (joined qs) in
    let behind : drop copies left ≡ joined qs =
    ap (λ (n : ℕ). drop n left) (sym many) ∙ ap (λ (ds : List ℕ). drop (length q) ds) (sym same) ∙ drop-front q (joined qs) in
    let long = long-front q (joined qs) in
    let all : length (q ++ joined qs) ≡ length left = ap (λ (ds : List ℕ). length ds) same in (
      record {
        room = omega (arith, long, all, many);
        schedule = subst (λ (ds : List ℕ). IsSchedule (record { delays = ds; length = ticks })) (sym front) h.schedules.0;
      },
      record { spelled = sym behind; as_many = h.as_many.1; schedules = h.schedules.1 },
    )

-- where some delays are left, so is a plan
some-left : (left : List ℕ) (copies ticks : ℕ) (qs : List (List ℕ)) → IsSpelling left copies ticks qs → 0 < length left
    → (length qs ≡ 0 → ⊥) × (IsInFront left copies ticks)
unfolding joined
some-left left copies ticks [] h some = absurd (let none : length left ≡ 0 = ap (λ (ds : List ℕ). length ds) (sym h.spelled) in omega (arith, some, none))
some-left left copies ticks (q ∷ qs) h some = (λ none. omega (arith, none), (first-in-front left copies ticks q qs h).0)

-- with the first plan
pub leaves-first : (delays : List ℕ) (copies ticks : ℕ) → LeavesOver delays copies ticks 1 (drop copies delays)
leaves-first delays copies ticks [] are = absurd (omega (arith, are.some_plan))
leaves-first delays copies ticks (p ∷ ps) are =
    let h : IsSpelling delays copies ticks (p ∷ ps) = record { spelled = are.spelled; as_many = are.as_many; schedules = are.schedules } in
    (ps, ((first-in-front delays copies ticks p ps h).1, omega arith))

-- with one plan more
on-from : (left : List ℕ) (copies ticks many count : ℕ) (qs : List (List ℕ)) → IsSpelling left copies ticks qs → many ≡ count + length qs → 0 < length left
    → (rs : List (List ℕ)) × (IsSpelling (drop copies left) copies ticks rs × (many ≡ suc count + length rs))
unfolding joined
on-from left copies ticks many count [] h all some =
    absurd (let none : length left ≡ 0 = ap (λ (ds : List ℕ). length ds) (sym h.spelled) in omega (arith, some, none))
on-from left copies ticks many count (q ∷ qs) h all some = (qs, ((first-in-front left copies ticks q qs h).1, omega (arith, all)))

pub leaves-on : (delays : List ℕ) (copies ticks count : ℕ) (left : List ℕ) → LeavesOver delays copies ticks count left → 0 < length left
    → LeavesOver delays copies ticks (suc count) (drop copies left)
leaves-on delays copies ticks count left h some ps are =
    let rest = h ps are in
    on-from left copies ticks (length ps) count rest.0 rest.1.0 rest.1.1 some

-- no plans are spelled: where the first isn't in front
pub none-first : (delays : List ℕ) (copies ticks : ℕ) → (IsInFront delays copies ticks → ⊥) → (ps : List (List ℕ)) → ArePlans delays copies ticks ps → ⊥
none-first delays copies ticks never [] are = absurd (omega (arith, are.some_plan))
none-first delays copies ticks never (p ∷ ps) are =
    let h : IsSpelling delays copies ticks (p ∷ ps) = record { spelled = are.spelled; as_many = are.as_many; schedules = are.schedules } in
    never (first-in-front delays copies ticks p ps h).0

-- where the next isn't in front of those that are left
pub none-next : (delays : List ℕ) (copies ticks count : ℕ) (left : List ℕ) → LeavesOver delays copies ticks count left → 0 < length left
    → (IsInFront left copies ticks → ⊥) → (ps : List (List ℕ)) → ArePlans delays copies ticks ps → ⊥
none-next delays copies ticks count left h some never ps are =
    let rest = h ps are in never (some-left left copies ticks rest.0 rest.1.0 some).1

-- where some are left behind the most plans that there may be
pub none-past : (delays : List ℕ) (copies ticks count : ℕ) (left : List ℕ) → LeavesOver delays copies ticks count left → 0 < length left
    → MOST_PLANS ≤ count → (ps : List (List ℕ)) → ArePlans delays copies ticks ps → ⊥
none-past delays copies ticks count left h some most ps are =
    let rest = h ps are in
    (some-left left copies ticks rest.0 rest.1.0 some).0 (omega (arith, rest.1.1, are.few_plans, most))

-- what holds where there is no answer
pub if-none : {X : Type 0} (answer : Option X) (P : Type 0) → answer ≡ None → P → IfNone answer P
if-none None P is p = p
if-none (Some x) P is p = tt
