-- An order that is kept in buckets.
use Rattle.std.specs.Prelude.{◌≡◌, ℕ, ◌*◌, List, [], ◌∷◌, ◌++◌, take, drop, slice_index_or}

-- what buckets hold, one bucket behind the other
unfoldable pub joined : {X : Type 0} → List (List X) → List X
joined [] = []
joined (bucket ∷ buckets) = bucket ++ joined buckets

-- each bucket is its stretch of the order, whose length is 2,048 but for the last
abbrev pub AreBuckets : {X : Type 0} → List X → List (List X) → Type 0
AreBuckets order buckets = (i : ℕ) → slice_index_or buckets i [] ≡ take 2048 (drop (2048 * i) order)
