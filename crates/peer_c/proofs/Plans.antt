-- Delays spell plans in one way at most, of no more copies than a mirror may have.
use Rattle.std.specs.Prelude.{Option, Some, None, IfSome, IfNone}
use Rattle.std.proofs.Common.{◌≡◌, ℕ, zero, suc, ◌+◌, ◌*◌, ◌<◌, ◌≤◌, Bool, true, false, List, [], ◌∷◌, ◌++◌, take, drop, length, refl, ap, sym, ◌∙◌, subst, arith, true≢false}
use Rattle.std.proofs.Math.Seq.{take-append_seam, drop-append_seam}
use Rattle.std.proofs.lemmas.List.{length-append}
use Rattle.std.proofs.lemmas.Bool.Decides.{nat_tests}
use Rattle.std.specs.List.{AllByRecursion}
use Rattle.game_trait.specs.declared.limits.TheConstants.{MOST_COPIES}
use Rattle.sync_model.specs.Schedule.{Schedule, IsSchedule, longest_delay, delays_of_each}
use Rattle.sync_model.specs.Lists.{joined}
use Rattle.rolling_mirror.specs.Rolling.{LetsTurnsGoOn}
use Rattle.host_parts.specs.Rising.{ArePlans}
use Rattle.peer_c.specs.Legal.{is_long}

-- no more copies than a schedule has
pub few-copies : (delays : List ℕ) (copies ticks : ℕ) (plans : List (List ℕ)) → ArePlans delays copies ticks plans → copies ≤ MOST_COPIES
few-copies delays copies ticks [] are = absurd (omega (arith, are.some_plan))
few-copies delays copies ticks (p ∷ ps) are = let few = are.schedules.0.few_copies in let many = are.as_many.0 in omega (arith, few, many)

-- and one at least
some-copies : (delays : List ℕ) (copies ticks : ℕ) (plans : List (List ℕ)) → ArePlans delays copies ticks plans → 0 < copies
some-copies delays copies ticks [] are = absurd (omega (arith, are.some_plan))
some-copies delays copies ticks (p ∷ ps) are = let some = are.schedules.0.some_copy in let many = are.as_many.0 in omega (arith, some, many)

same-plans : (n : ℕ) (ps qs : List (List ℕ)) → 0 < n → AllByRecursion (λ plan. length plan ≡ n) ps → AllByRecursion (λ plan. length plan ≡ n) qs
    → joined ps ≡ joined qs → ps ≡ qs
unfolding joined
same-plans n [] [] some a b is = refl
same-plans n [] (q ∷ qs) some a b is =
    absurd (let long = length-append q (joined qs) in let none : 0 ≡ length (q ++ joined qs) = ap (λ (ds : List ℕ). length ds) is in let many = b.0 in omega (arith, long, none, many, some))
same-plans n (p ∷ ps) [] some a b is =
    absurd (let long = length-append p (joined ps) in let none : length (p ++ joined ps) ≡ 0 = ap (λ (ds : List ℕ). length ds) is in let many = a.0 in omega (arith, long, none, many, some))
same-plans n (p ∷ ps) (q ∷ qs) some a b is =
    let many : length p ≡ length q = a.0 ∙ sym b.0 in
    let front : p ≡ q =
    sym (take-append_seam p (joined ps)) ∙ ap (λ (k : ℕ). take k (p ++ joined ps)) many ∙ ap (λ (ds : List ℕ). take (length q) ds) is ∙ take-append_seam q (joined qs) in
    let behind : joined ps ≡ joined qs =
    sym (drop-append_seam p (joined ps)) ∙ ap (λ (k : ℕ). drop k (p ++ joined ps)) many ∙ ap (λ (ds : List ℕ). drop (length q) ds) is ∙ drop-append_seam q (joined qs) in
    ap (λ (x : List ℕ). x ∷ ps) front ∙ ap (λ (xs : List (List ℕ)). q ∷ xs) (same-plans n ps qs some a.1 b.1 behind)

-- the one way
pub one-spelling : (delays : List ℕ) (copies ticks : ℕ) (ps qs : List (List ℕ)) → ArePlans delays copies ticks ps → ArePlans delays copies ticks qs → ps ≡ qs
one-spelling delays copies ticks ps qs a b =
    same-plans copies ps qs (some-copies delays copies ticks ps a) a.as_many b.as_many (a.spelled ∙ sym b.spelled)

-- windows, by delays or by plans
pub long-each : (keep window : ℕ) (plans : List Schedule) → AllByRecursion (λ plan. is_long keep window plan.delays ≡ true) plans
    → AllByRecursion (λ delays. is_long keep window delays ≡ true) (delays_of_each plans)
long-each keep window [] all = tt
long-each keep window (p ∷ ps) all = (all.0, long-each keep window ps all.1)

pub each-long : (keep window : ℕ) (plans : List Schedule) → AllByRecursion (λ delays. is_long keep window delays ≡ true) (delays_of_each plans)
    → AllByRecursion (λ plan. is_long keep window plan.delays ≡ true) plans
each-long keep window [] all = tt
each-long keep window (p ∷ ps) all = (all.0, each-long keep window ps all.1)

goes-on : (keep window : ℕ) (plan : Schedule) → is_long keep window plan.delays ≡ true → plan.length ≡ window → LetsTurnsGoOn plan
goes-on keep window plan is ticks = grind (arith, nat_tests)

pub go-on : (keep window : ℕ) (plans : List Schedule) → AllByRecursion (λ plan. is_long keep window plan.delays ≡ true) plans
    → AllByRecursion (λ plan. plan.length ≡ window) plans → AllByRecursion LetsTurnsGoOn plans
go-on keep window [] all ticks = tt
go-on keep window (p ∷ ps) all ticks = (goes-on keep window p all.0 ticks.0, go-on keep window ps all.1 ticks.1)

-- what holds of an answer, from another fact of it
pub if-some : {X : Type 0} (P Q : X → Type 0) → ((x : X) → P x → Q x) → (r : Option X) → IfSome r P → IfSome r Q
if-some P Q f None is = tt
if-some P Q f (Some x) is = f x is

pub if-none : {X : Type 0} (P Q : Type 0) → (P → Q) → (r : Option X) → IfNone r P → IfNone r Q
if-none P Q f None is = f is
if-none P Q f (Some x) is = tt
