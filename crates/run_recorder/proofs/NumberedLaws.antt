-- Items that are right by their number.
use Rattle.std.proofs.Common.{◌≡◌, ℕ, ◌+◌, List, [], ◌∷◌, ◌++◌, length, subst, arith}
use Rattle.run_recorder.specs.Data.{EachNumbered}

-- one item more
pub numbered_push : {A : Type 0} (Is : ℕ → A → Type 0) (n : ℕ) (xs : List A) (a : A) → EachNumbered Is n xs → Is (n + length xs) a → EachNumbered Is n (xs ++ a ∷ [])
unfolding EachNumbered
numbered_push Is n [] a h k = let e : n + 0 ≡ n = omega arith in (subst (λ (v : ℕ). Is v a) e k, tt)
numbered_push Is n (x ∷ xs) a h k = let e : n + length (x ∷ xs) ≡ n + 1 + length xs = omega arith in (h.0, numbered_push Is (n + 1) xs a h.1 (subst (λ (v : ℕ). Is v a) e k))

-- the items in front of the last, and the last
pub numbered_last : {A : Type 0} (Is : ℕ → A → Type 0) (n : ℕ) (xs : List A) (a : A) → EachNumbered Is n (xs ++ a ∷ []) → EachNumbered Is n xs × Is (n + length xs) a
unfolding EachNumbered
numbered_last Is n [] a h = let e : n ≡ n + 0 = omega arith in (tt, subst (λ (v : ℕ). Is v a) e h.0)
numbered_last Is n (x ∷ xs) a h =
    let e : n + 1 + length xs ≡ n + length (x ∷ xs) = omega arith in
    let more = numbered_last Is (n + 1) xs a h.1 in
    ((h.0, more.0), subst (λ (v : ℕ). Is v a) e more.1)
