-- Lists of cells of which no two are the same.
use Rattle.std.proofs.Common.{◌≡◌, ℕ, zero, suc, Bool, false, List, [], ◌∷◌, ◌++◌, set, ◌∙◌, ◌==◌, inl, inr, refl, sym}
use Rattle.std.specs.List.{list_any, AllByRecursion, IsDistinct}
use Rattle.std.proofs.lemmas.Bool.{or_parts, cases_eq, ne_eqb}
use Rattle.std.proofs.lemmas.Map.Keys.{IsDistinct-tail}
use Rattle.match_setup.specs.Setup.{Cell, same_cell}

-- the order in which two numbers are compared doesn't matter
same_number-symm : (n m : ℕ) → (n == m) ≡ (m == n)
same_number-symm n m = elim (cases_eq n m) [ inl same ↦ rw same refl | inr apart ↦ ne_eqb n m apart ∙ sym (ne_eqb m n (λ e. apart (sym e))) ]

-- nor does that of two cells
pub same_cell-symm : (a b : Cell) → same_cell a b ≡ same_cell b a
same_cell-symm a b = rw (same_number-symm a.x b.x, same_number-symm a.y b.y) refl

-- where no element passes a test, each fails it
pub each_fails : {X : Type 0} (test : X → Bool) (xs : List X) → list_any test xs ≡ false → AllByRecursion (λ x. test x ≡ false) xs
each_fails test [] none = tt
each_fails test (x ∷ xs) none = ((or_parts _ _ none).0, each_fails test xs (or_parts _ _ none).1)

-- a fact of each element, after one of them is replaced
AllByRecursion-set : {X : Type 0} (P : X → Type 0) (xs : List X) (i : ℕ) (y : X) → P y → AllByRecursion P xs → AllByRecursion P (set xs i y)
AllByRecursion-set P [] i y new old = tt
AllByRecursion-set P (x ∷ xs) zero y new old = (new, old.1)
AllByRecursion-set P (x ∷ xs) (suc i) y new old = (old.0, AllByRecursion-set P xs i y new old.1)

-- one element is replaced by another that isn't there
pub IsDistinct-set : {X : Type 0} (same : X → X → Bool) → ((x y : X) → same x y ≡ same y x)
    → (xs : List X) (i : ℕ) (y : X) → IsDistinct same xs → list_any (same y) xs ≡ false → IsDistinct same (set xs i y)
unfolding IsDistinct
IsDistinct-set same symm [] i y apart none = tt
IsDistinct-set same symm (x ∷ xs) zero y apart none = (each_fails (same y) xs (or_parts _ _ none).1, apart.1)
IsDistinct-set same symm (x ∷ xs) (suc i) y apart none =
    (AllByRecursion-set (λ z. same x z ≡ false) xs i y (symm x y ∙ (or_parts _ _ none).0) apart.0, IsDistinct-set same symm xs i y apart.1 (or_parts _ _ none).1)

-- the back of a list of different elements
pub IsDistinct-back : {X : Type 0} (same : X → X → Bool) (xs ys : List X) → IsDistinct same (xs ++ ys) → IsDistinct same ys
IsDistinct-back same [] ys apart = apart
IsDistinct-back same (x ∷ xs) ys apart = IsDistinct-back same xs ys (IsDistinct-tail same x (xs ++ ys) apart)

-- and the front
IsDistinct-front_head : {X : Type 0} (test : X → Bool) (xs ys : List X) → AllByRecursion (λ x. test x ≡ false) (xs ++ ys) → AllByRecursion (λ x. test x ≡ false) xs
IsDistinct-front_head test [] ys fails = tt
IsDistinct-front_head test (x ∷ xs) ys fails = (fails.0, IsDistinct-front_head test xs ys fails.1)

pub IsDistinct-front : {X : Type 0} (same : X → X → Bool) (xs ys : List X) → IsDistinct same (xs ++ ys) → IsDistinct same xs
unfolding IsDistinct
IsDistinct-front same [] ys apart = tt
IsDistinct-front same (x ∷ xs) ys apart = (IsDistinct-front_head (same x) xs ys apart.0, IsDistinct-front same xs ys apart.1)
