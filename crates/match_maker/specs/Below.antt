-- Lists that are told number by number.
use Rattle.std.specs.Prelude.{ℕ, zero, suc, List, [], ◌∷◌, ◌++◌}

-- what f gives at each number below n, in their order
unfoldable pub joined_below : {X : Type 0} → (ℕ → List X) → ℕ → List X
joined_below f zero = []
joined_below f (suc n) = joined_below f n ++ f n

-- one element at each number below n
abbrev pub each_below : {X : Type 0} → (ℕ → X) → ℕ → List X
each_below f n = joined_below (λ j. f j ∷ []) n
