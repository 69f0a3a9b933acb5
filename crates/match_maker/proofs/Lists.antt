-- Lists that are told number by number.
use Rattle.std.proofs.Common.{◌≡◌, ℕ, zero, suc, ◌+◌, ◌≤◌, ◌<◌, List, [], ◌∷◌, ◌++◌, length, get_or, refl, sym, ap, ◌∙◌, append_assoc, length-append, arith}
use Rattle.std.specs.List.{AllByRecursion}
use Rattle.std.proofs.lemmas.List.{append-nil}
use Rattle.std.proofs.Common.{inl, inr}
use Rattle.std.proofs.Math.Nat.{eq-or-lt_of_le}
use Rattle.tss_base.proofs.ListLaws.{all_append}
use Rattle.match_maker.specs.Below.{joined_below, each_below}

-- one number more
pub joined_none : {X : Type 0} → (f : ℕ → List X) → joined_below f 0 ≡ []
unfolding joined_below
joined_none f = refl

pub joined_more : {X : Type 0} → (f : ℕ → List X) (n : ℕ) → joined_below f (n + 1) ≡ joined_below f n ++ f n
unfolding joined_below
joined_more f n = let e : n + 1 ≡ suc n = omega arith in ap (joined_below f) e

-- n elements
pub length_each : {X : Type 0} → (f : ℕ → X) (n : ℕ) → length (each_below f n) ≡ n
unfolding joined_below
length_each f zero = refl
length_each f (suc n) = let l = length-append (each_below f n) (f n ∷ []) in omega (arith, l, length_each f n)

-- the element in a place behind a list
get-behind : {X : Type 0} → (xs : List X) (x : X) (n : ℕ) (d : X) → length xs ≡ n → get_or (xs ++ x ∷ []) n d ≡ x
get-behind [] x zero d l = refl
get-behind [] x (suc n) d l = absurd (omega (arith, l))
get-behind (y ∷ ys) x zero d l = absurd (omega (arith, l))
get-behind (y ∷ ys) x (suc n) d l = let t : length ys ≡ n = omega (arith, l) in get-behind ys x n d t

-- the element in a place of the list
get-front : {X : Type 0} → (xs : List X) (x : X) (i : ℕ) (d : X) → i < length xs → get_or (xs ++ x ∷ []) i d ≡ get_or xs i d
get-front [] x i d l = absurd (omega (arith, l))
get-front (y ∷ ys) x zero d l = refl
get-front (y ∷ ys) x (suc i) d l = let t : i < length ys = omega (arith, l) in get-front ys x i d t

-- the element of a number
pub get_each : {X : Type 0} → (f : ℕ → X) (n i : ℕ) (d : X) → i < n → get_or (each_below f n) i d ≡ f i
unfolding joined_below
get_each f zero i d h = absurd (omega (arith, h))
get_each f (suc n) i d h =
    elim (eq-or-lt_of_le {n = i} {m = n} (omega (arith, h))) [
      | inl e ↦ get-behind (each_below f n) (f n) i d (length_each f n ∙ sym e) ∙ ap f (sym e)
      | inr l ↦ get-front (each_below f n) (f n) i d (omega (arith, l, length_each f n)) ∙ get_each f n i d l
    ]

-- ---- where most numbers give nothing

-- where none below n gives anything
pub joined_nothing : {X : Type 0} → (f : ℕ → List X) (n : ℕ) → ((j : ℕ) → j < n → f j ≡ []) → joined_below f n ≡ []
unfolding joined_below
joined_nothing f zero h = refl
joined_nothing f (suc n) h =
    ap (λ xs. xs ++ f n) (joined_nothing f n (λ j l. h j (omega (arith, l)))) ∙ h n (omega arith)

-- where none from n on does
pub joined_rest : {X : Type 0} → (f : ℕ → List X) (n k : ℕ) → ((j : ℕ) → n ≤ j → j < n + k → f j ≡ []) → joined_below f (n + k) ≡ joined_below f n
unfolding joined_below
joined_rest f n zero h = let e : n + 0 ≡ n = omega arith in ap (joined_below f) e
joined_rest f n (suc k) h =
    let e : n + suc k ≡ suc (n + k) = omega arith in
    ap (joined_below f) e ∙ (ap (λ xs. xs ++ f (n + k)) (joined_rest f n k (λ j l m. h j l (omega (arith, m))))
    ∙ (ap (λ xs. joined_below f n ++ xs) (h (n + k) (omega arith) (omega arith)) ∙ append-nil (joined_below f n)))

-- ---- what holds of each

-- what holds of all that each number gives
pub all_joined : {X : Type 0} → (P : X → Type 0) (f : ℕ → List X) (n : ℕ) → ((j : ℕ) → j < n → AllByRecursion P (f j))
    → AllByRecursion P (joined_below f n)
unfolding joined_below
all_joined P f zero h = tt
all_joined P f (suc n) h =
    all_append P (joined_below f n) (f n) (all_joined P f n (λ j l. h j (omega (arith, l)))) (h n (omega arith))

-- what holds of each
pub all_each : {X : Type 0} → (P : X → Type 0) (f : ℕ → X) (n : ℕ) → ((j : ℕ) → j < n → P (f j))
    → AllByRecursion P (each_below f n)
all_each P f n h = all_joined P (λ j. f j ∷ []) n (λ j l. (h j l, tt))

-- ---- lists that grow

-- what was appended so far, and one number's more
pub joined_next : {X : Type 0} → (f : ℕ → List X) (n : ℕ) (before between after : List X) → between ≡ before ++ joined_below f n
    → after ≡ between ++ f n → after ≡ before ++ joined_below f (n + 1)
joined_next f n before between after first second =
    second ∙ (ap (λ xs. xs ++ f n) first ∙ (append_assoc before (joined_below f n) (f n) ∙ ap (λ xs. before ++ xs) (sym (joined_more f n))))

-- where nothing was appended yet
pub joined_first : {X : Type 0} → (f : ℕ → List X) (n : ℕ) (before : List X) → joined_below f n ≡ [] → before ≡ before ++ joined_below f n
joined_first f n before h = sym (ap (λ xs. before ++ xs) h ∙ append-nil before)
