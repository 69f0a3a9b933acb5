-- The names of the players, in order, each but once.
use Rattle.std.specs.Prelude.{ℕ, Bool, if◌then◌else◌, List, [], ◌∷◌, ◌++◌, bytes_eq}
use Rattle.std.specs.List.{list_any, IsDistinct}

-- the name is among the names
abbrev pub is_known : List (List ℕ) → List ℕ → Bool
is_known names name = list_any (bytes_eq name) names

-- the names with this one put last, where it isn't among them
abbrev pub with_name : List (List ℕ) → List ℕ → List (List ℕ)
with_name names name = if is_known names name then names else names ++ name ∷ []

-- no name stands twice
abbrev pub PlayerNamesDiffer : List (List ℕ) → Type 0
PlayerNamesDiffer names = IsDistinct bytes_eq names
