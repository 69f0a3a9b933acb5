-- How often commands stand in a list.
use Rattle.std.specs.Prelude.{ℕ, ◌+◌, Bool, cond, List, [], ◌∷◌, nat_le, nat_lt, ◌&&◌}

-- how many elements pass a test
unfoldable pub times : {X : Type 0} → (X → Bool) → List X → ℕ
times p [] = 0
times p (x ∷ xs) = cond (p x) 1 0 + times p xs

-- t is at least i and below j
abbrev pub within : ℕ → ℕ → ℕ → Bool
within i j t = nat_le i t && nat_lt t j
