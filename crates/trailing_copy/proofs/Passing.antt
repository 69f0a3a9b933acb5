-- Ticks pass in each of some worlds, one after another.
use Rattle.std.proofs.Common.{◌≡◌, refl, ◌∙◌, ap, ℕ, zero, suc, ◌+◌, ◌≤◌, ◌<◌, List, [], ◌∷◌, map, length, get_or, set, arith}

-- the first so many elements made others
unfoldable pub first_made : {X : Type 0} → (X → X) → ℕ → List X → List X
first_made f zero xs = xs
first_made f (suc n) [] = []
first_made f (suc n) (x ∷ xs) = f x ∷ first_made f n xs

pub made-length : {X : Type 0} (f : X → X) (n : ℕ) (xs : List X) → length (first_made f n xs) ≡ length xs
unfolding first_made
made-length f zero xs = refl
made-length f (suc n) [] = refl
made-length f (suc n) (x ∷ xs) = ap suc (made-length f n xs)

pub made-none : {X : Type 0} (f : X → X) (xs : List X) → xs ≡ first_made f 0 xs
unfolding first_made
made-none f xs = refl

made-suc : {X : Type 0} (f : X → X) (n : ℕ) (xs : List X) (d : X) → n < length xs → set (first_made f n xs) n (f (get_or (first_made f n xs) n d)) ≡ first_made f (suc n) xs
unfolding first_made
made-suc f n [] d there = absurd (omega arith)
made-suc f zero (x ∷ xs) d there = refl
made-suc {X} f (suc n) (x ∷ xs) d there = ap (λ (l : List X). f x ∷ l) (made-suc f n xs d (omega arith))

pub made-next : {X : Type 0} (f : X → X) (n : ℕ) (xs now : List X) (d : X) → n < length xs → now ≡ first_made f n xs → set now n (f (get_or now n d)) ≡ first_made f (n + 1) xs
made-next {X} f n xs now d there is =
    let one : suc n ≡ n + 1 = omega arith in
    ap (λ (l : List X). set l n (f (get_or l n d))) is ∙ made-suc f n xs d there ∙ ap (λ (m : ℕ). first_made f m xs) one

pub made-all : {X : Type 0} (f : X → X) (n : ℕ) (xs : List X) → length xs ≤ n → first_made f n xs ≡ map f xs
unfolding first_made
made-all f zero [] done = refl
made-all f zero (x ∷ xs) done = absurd (omega arith)
made-all f (suc n) [] done = refl
made-all {X} f (suc n) (x ∷ xs) done = ap (λ (l : List X). f x ∷ l) (made-all f n xs (omega arith))
