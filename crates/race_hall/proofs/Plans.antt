-- The mirrors' plans together are the match's commands; sums over the other mirrors and one's own.
use Rattle.std.proofs.Common.{◌≡◌, ◌≢◌, ℕ, zero, suc, ◌+◌, ◌-◌, ◌<◌, ◌≤◌, Bool, true, false, cond, ◌&&◌, List, [], ◌∷◌, ◌++◌, filter, length, refl, ap, sym, ◌∙◌, subst, arith}
use Rattle.std.specs.Prelude.{◌==◌, nat_lt, nat_le}
use Rattle.std.specs.List.{AllByRecursion}
use Rattle.std.proofs.lemmas.Bool.Decides.{nat_tests}
use Rattle.game_trait.specs.declared.command.Command.{Command}
use Rattle.game_trait.specs.Count.{times}
use Rattle.game_trait.proofs.Counts.{times-in_key_order, times-filter, times-apart}
use Rattle.game_trait.proofs.KeyOrder.{all-in_key_order}
use Rattle.tss_base.specs.Totals.{total}
use Rattle.copy_workers.proofs.Lists.{all-append}
use Rattle.race_hall.specs.Race.{Course, plan_of, count_from, others}
use Rattle.race_hall.specs.Finish.{unissued}
use Rattle.race_hall.proofs.Lists.{total-append}
use Rattle.race_hall.proofs.Numbered.{count-push}
use Rattle.game_trait.proofs.Lists.{all-filter, all-weaker, all-first, all-second}

count-split : (i m n : ℕ) → m < n → count_from i n ≡ count_from i m ++ (i + m) ∷ count_from (i + m + 1) (n - (m + 1))
unfolding count_from
count-split i m zero below = absurd (omega arith)
count-split i zero (suc n) below =
    (let a : i ≡ i + 0 = omega arith in let b : n ≡ suc n - 1 = omega arith in
    λ j. a j ∷ count_from (a j + 1) (b j))
count-split i (suc m) (suc n) below =
    ap (λ (l : List ℕ). i ∷ l)
    (count-split (i + 1) m n (omega arith)
    ∙ (let a : i + 1 + m ≡ i + suc m = omega arith in let b : n - (m + 1) ≡ suc n - (suc m + 1) = omega arith in
    λ j. count_from (i + 1) m ++ a j ∷ count_from (a j + 1) (b j)))

count-all : (i n : ℕ) → AllByRecursion (λ k. (i ≤ k) × (k < i + n)) (count_from i n)
unfolding count_from
count-all i zero = tt
count-all i (suc n) = ((omega arith, omega arith), more (count_from (i + 1) n) (count-all (i + 1) n))
  where
    more : (ks : List ℕ) → AllByRecursion (λ k. (i + 1 ≤ k) × (k < i + 1 + n)) ks → AllByRecursion (λ k. (i ≤ k) × (k < i + suc n)) ks
    more [] h = tt
    more (k ∷ ks) h = ((let a = h.0.0 in omega arith, let b = h.0.1 in omega arith), more ks h.1)

-- the others are there, and are others
pub others-all : (n m : ℕ) → m < n → AllByRecursion (λ k. (k < n) × (k ≢ m)) (others n m)
others-all n m below =
    all-append (λ k. (k < n) × (k ≢ m)) (count_from 0 m) (count_from (m + 1) (n - (m + 1)))
    (all-weaker (λ k. (0 ≤ k) × (k < 0 + m)) (λ k. (k < n) × (k ≢ m)) (count_from 0 m) (λ k h. (let a = h.1 in omega arith, λ e. let a = h.1 in omega arith)) (count-all 0 m))
    (all-weaker (λ k. (m + 1 ≤ k) × (k < m + 1 + (n - (m + 1)))) (λ k. (k < n) × (k ≢ m)) (count_from (m + 1) (n - (m + 1)))
    (λ k h. (let a = h.1 in omega arith, λ e. let a = h.0 in omega arith)) (count-all (m + 1) (n - (m + 1))))

-- every mirror, as a sum and for each
pub total-others : (f : ℕ → ℕ) (n m : ℕ) → m < n → total f (count_from 0 n) ≡ total f (others n m) + f m
total-others f n m below =
    (let a = ap (λ (l : List ℕ). total f l) (count-split 0 m n below) in
    let b = total-append f (count_from 0 m) ((0 + m) ∷ count_from (0 + m + 1) (n - (m + 1))) in
    let d = total-append f (count_from 0 m) (count_from (m + 1) (n - (m + 1))) in
    let e : total f (count_from (0 + m + 1) (n - (m + 1))) ≡ total f (count_from (m + 1) (n - (m + 1))) = ap (λ (i : ℕ). total f (count_from i (n - (m + 1)))) (omega arith) in
    let g : f (0 + m) ≡ f m = ap f (omega arith) in
    omega arith)

pub everyone : (P : ℕ → Type 0) (n : ℕ) → ((k : ℕ) → k < n → P k) → AllByRecursion P (count_from 0 n)
everyone P n each = all-weaker (λ k. (0 ≤ k) × (k < 0 + n)) P (count_from 0 n) (λ k h. each k (let a = h.1 in omega arith)) (count-all 0 n)

-- a plan holds the commands of its mirror
pub times-plan : (p : Command → Bool) (c : Course) (k : ℕ) → times p (plan_of c k) ≡ times (λ x. p x && (x.from == k)) c.commands
times-plan p c k = times-in_key_order p (filter (λ x. x.from == k) c.commands) ∙ times-filter p (λ x. x.from == k) c.commands

pub all-plan : (P : Command → Type 0) (c : Course) (k : ℕ) → AllByRecursion P c.commands → AllByRecursion P (plan_of c k)
all-plan P c k h = all-in_key_order P (filter (λ x. x.from == k) c.commands) (all-filter P (λ x. x.from == k) c.commands h)

split-from : (p : Command → Bool) (n : ℕ) (x : Command) →
    cond {A = ℕ} (p x && nat_lt x.from (suc n)) 1 0 ≡ cond {A = ℕ} (p x && nat_lt x.from n) 1 0 + cond {A = ℕ} (p x && (x.from == n)) 1 0
split-from p n x = grind (arith, nat_tests)

none-from : (p : Command → Bool) (xs : List Command) → times (λ x. p x && nat_lt x.from 0) xs ≡ 0
unfolding times
none-from p [] = refl
none-from p (x ∷ xs) = (let e : (p x && nat_lt x.from 0) ≡ false = grind (arith, nat_tests) in rw e (omega (arith, none-from p xs)))

all-from : (p : Command → Bool) (n : ℕ) (xs : List Command) → AllByRecursion (λ x. x.from < n) xs → times (λ x. p x && nat_lt x.from n) xs ≡ times p xs
unfolding times
all-from p n [] h = refl
all-from p n (x ∷ xs) h = (let low = h.0 in let e : (p x && nat_lt x.from n) ≡ p x = grind (arith, nat_tests) in rw e (omega (arith, all-from p n xs h.1)))

plans-below : (p : Command → Bool) (c : Course) (n : ℕ) → total (λ k. times p (plan_of c k)) (count_from 0 n) ≡ times (λ x. p x && nat_lt x.from n) c.commands
unfolding count_from
plans-below p c zero = sym (none-from p c.commands)
plans-below p c (suc n) =
    (let a = ap (λ (l : List ℕ). total (λ k. times p (plan_of c k)) l) (count-push 0 n) in
    let b = total-append (λ k. times p (plan_of c k)) (count_from 0 n) ((0 + n) ∷ []) in
    let d = plans-below p c n in
    let e : times p (plan_of c (0 + n)) ≡ times (λ x. p x && (x.from == n)) c.commands = ap (λ (k : ℕ). times p (plan_of c k)) (omega arith) ∙ times-plan p c n in
    let g = times-apart (λ x. p x && nat_lt x.from n) (λ x. p x && (x.from == n)) (λ x. p x && nat_lt x.from (suc n)) c.commands (split-from p n) in
    omega arith)

-- the plans together are the commands
pub plans-count : (p : Command → Bool) (c : Course) → AllByRecursion (λ x. x.from < c.mirrors) c.commands
    → total (λ k. times p (plan_of c k)) (count_from 0 c.mirrors) ≡ times p c.commands
plans-count p c from = plans-below p c c.mirrors ∙ all-from p c.mirrors c.commands from

-- what was issued and what never was
split-time : (p : Command → Bool) (n : ℕ) (x : Command) →
    cond {A = ℕ} (p x) 1 0 ≡ cond {A = ℕ} (p x && nat_lt x.time n) 1 0 + cond {A = ℕ} (p x && nat_le n x.time) 1 0
split-time p n x = grind (arith, nat_tests)

pub times-unissued : (p : Command → Bool) (plan : List Command) (n : ℕ) → times (λ x. p x && nat_lt x.time n) plan + times p (unissued plan n) ≡ times p plan
times-unissued p plan n =
    (let a = times-filter p (λ x. nat_le n x.time) plan in
    let b = times-apart (λ x. p x && nat_lt x.time n) (λ x. p x && nat_le n x.time) p plan (split-time p n) in
    omega arith)

unissued-times : (plan : List Command) (n : ℕ) → AllByRecursion (λ x. n ≤ x.time) (unissued plan n)
unissued-times [] n = tt
unissued-times (x ∷ plan) n =
    elim (nat_le n x.time) as (λ v. nat_le n x.time ≡ v → AllByRecursion (λ y. n ≤ y.time) (cond v (x ∷ unissued plan n) (unissued plan n)))
    [ true ↦ λ e. (grind (arith, nat_tests), unissued-times plan n) | false ↦ λ e. unissued-times plan n ]
    refl

pub all-unissued : (length : ℕ) (plan : List Command) (n : ℕ) → AllByRecursion (λ x. x.time < length) plan → AllByRecursion (λ x. (n ≤ x.time) × (x.time < length)) (unissued plan n)
all-unissued length plan n h = both (unissued plan n) (unissued-times plan n) (all-filter (λ x. x.time < length) (λ x. nat_le n x.time) plan h)
  where
    both : (xs : List Command) → AllByRecursion (λ x. n ≤ x.time) xs → AllByRecursion (λ x. x.time < length) xs → AllByRecursion (λ x. (n ≤ x.time) × (x.time < length)) xs
    both [] h k = tt
    both (x ∷ xs) h k = ((h.0, k.0), both xs h.1 k.1)

-- what holds of the others and of one's own holds of everyone
pub everyone-of : (P : ℕ → Type 0) (n m : ℕ) → m < n → AllByRecursion P (others n m) → P m → AllByRecursion P (count_from 0 n)
everyone-of P n m below h here =
    let e : count_from 0 n ≡ count_from 0 m ++ m ∷ count_from (m + 1) (n - (m + 1)) =
    count-split 0 m n below ∙ (let a : 0 + m ≡ m = omega arith in λ j. count_from 0 m ++ a j ∷ count_from (a j + 1) (n - (m + 1))) in
    subst (AllByRecursion P) (sym e) (put (count_from 0 m) h)
  where
    put : (ks : List ℕ) → AllByRecursion P (ks ++ count_from (m + 1) (n - (m + 1))) → AllByRecursion P (ks ++ m ∷ count_from (m + 1) (n - (m + 1)))
    put [] k = (here, k)
    put (i ∷ ks) k = (k.0, put ks k.1)

count-each : (P : ℕ → Type 0) (i n k : ℕ) → AllByRecursion P (count_from i n) → i ≤ k → k < i + n → P k
unfolding count_from
count-each P i zero k h low high = absurd (omega arith)
count-each P i (suc n) k h low high =
    elim (i == k) as (λ v. (i == k) ≡ v → P k) [
      | true ↦ λ e. (let same : i ≡ k = grind (arith, nat_tests) in subst P same h.0)
      | false ↦ λ e. (let differ : i ≢ k = grind (arith, nat_tests) in count-each P (i + 1) n k h.1 (omega arith) (omega arith))
    ]
    refl

-- what holds of the others holds of each other
pub others-each : (P : ℕ → Type 0) (n m k : ℕ) → m < n → k < n → k ≢ m → AllByRecursion P (others n m) → P k
others-each P n m k there below differ h =
    elim (nat_lt k m) as (λ v. nat_lt k m ≡ v → P k) [
      | true ↦ λ e. (let low : k < m = grind (arith, nat_tests) in count-each P 0 m k (all-first P (count_from 0 m) (count_from (m + 1) (n - (m + 1))) h) (omega arith) (omega arith))
      | false ↦ λ e. (let high : m ≤ k = grind (arith, nat_tests) in
          count-each P (m + 1) (n - (m + 1)) k (all-second P (count_from 0 m) (count_from (m + 1) (n - (m + 1))) h)
          (omega arith) (omega arith))
    ]
    refl
