-- Sums number by number.
use Rattle.std.proofs.Common.{◌≡◌, ℕ, zero, suc, ◌+◌, ◌*◌, ◌≤◌, ◌<◌, true, false, ◌==◌, cond, List, length, refl, ap, ◌∙◌, length-append, arith}
use Rattle.std.proofs.lemmas.Bool.Decides.{nat_tests}
use Rattle.match_maker.specs.Below.{joined_below}

-- the sum of what f gives at each number below n
unfoldable pub sum_below : (ℕ → ℕ) → ℕ → ℕ
sum_below f zero = 0
sum_below f (suc n) = sum_below f n + f n

-- what joined lists are long
pub length_joined : {X : Type 0} → (f : ℕ → List X) (n : ℕ) → length (joined_below f n) ≡ sum_below (λ j. length (f j)) n
unfolding joined_below sum_below
length_joined f zero = refl
length_joined f (suc n) = length-append (joined_below f n) (f n) ∙ ap (λ k. k + length (f n)) (length_joined f n)

-- the sum of the same number
pub sum_same : (f : ℕ → ℕ) (c n : ℕ) → ((j : ℕ) → j < n → f j ≡ c) → sum_below f n ≡ n * c
unfolding sum_below
sum_same f c zero h = omega arith
sum_same f c (suc n) h =
    let before = sum_same f c n (λ j l. h j (omega (arith, l))) in
    let here = h n (omega arith) in
    omega (arith, before, here)

-- the sum of two
sum_add : (f g : ℕ → ℕ) (n : ℕ) → sum_below (λ j. f j + g j) n ≡ sum_below f n + sum_below g n
unfolding sum_below
sum_add f g zero = refl
sum_add f g (suc n) = let before = sum_add f g n in omega (arith, before)

-- the sum of nothing
sum_none : (n : ℕ) → sum_below (λ j. 0) n ≡ 0
unfolding sum_below
sum_none zero = refl
sum_none (suc n) = let before = sum_none n in omega (arith, before)

-- sums by rows and by columns
pub sum_swap : (f : ℕ → ℕ → ℕ) (n k : ℕ) → sum_below (λ i. sum_below (λ j. f i j) k) n ≡ sum_below (λ j. sum_below (λ i. f i j) n) k
unfolding sum_below
sum_swap f n zero = sum_none n
sum_swap f n (suc k) =
    sum_add (λ i. sum_below (λ j. f i j) k) (λ i. f i k) n ∙ ap (λ s. s + sum_below (λ i. f i k) n) (sum_swap f n k)

-- the sum of two, of which the second is the same number
pub sum_and_same : (f : ℕ → ℕ) (c n : ℕ) → sum_below (λ j. f j + c) n ≡ sum_below f n + n * c
sum_and_same f c n = sum_add f (λ j. c) n ∙ ap (λ s. sum_below f n + s) (sum_same (λ j. c) c n (λ j l. refl))

-- the same summands
pub sum_equal : (f g : ℕ → ℕ) (n : ℕ) → ((j : ℕ) → j < n → f j ≡ g j) → sum_below f n ≡ sum_below g n
unfolding sum_below
sum_equal f g zero h = refl
sum_equal f g (suc n) h =
    let before = sum_equal f g n (λ j l. h j (omega (arith, l))) in
    let here = h n (omega arith) in
    omega (arith, before, here)

-- one at a number, and none elsewhere: none below it
sum_not_yet : (x n : ℕ) → n ≤ x → sum_below (λ t. cond (x == t) 1 0) n ≡ 0
unfolding sum_below
sum_not_yet x zero h = refl
sum_not_yet x (suc n) h =
    let e : (x == n) ≡ false = grind (arith, nat_tests) in
    rw e (let before = sum_not_yet x n (omega (arith, h)) in omega (arith, before))

-- and one above it
pub sum_once : (x n : ℕ) → x < n → sum_below (λ t. cond (x == t) 1 0) n ≡ 1
unfolding sum_below
sum_once x zero h = absurd (omega (arith, h))
sum_once x (suc n) h =
    elim (x == n) as (λ v. (x == n) ≡ v → sum_below (λ t. cond (x == t) 1 0) n + cond v 1 0 ≡ 1) [
      | true ↦ λ e. let here : n ≤ x = grind (arith, nat_tests) in let before = sum_not_yet x n here in omega (arith, before)
      | false ↦ λ e. let there : x < n = grind (arith, nat_tests) in let before = sum_once x n there in omega (arith, before)
    ]
    refl
