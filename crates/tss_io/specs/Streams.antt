-- What sources give and sinks take, and how their counts of faults rise.
use Rattle.std.specs.Prelude.{◌≡◌, ◌<◌, ◌+◌, ◌-◌, ◌^◌, ◌⊎◌, ◌++◌, ℕ, List, Option, Some, None, min}

-- a counter of 64 bits after one more: it stays at its last value.
abbrev pub next_count : ℕ → ℕ
next_count n = min (n + 1) (2 ^ 64 - 1)

-- a count is greater than before, or stands at the last value of its counter.
abbrev pub Rose : ℕ → ℕ → Type 0
Rose old new = (old < new) ⊎ (new ≡ 2 ^ 64 - 1)

-- where bytes are told, the piece stood at the front of those left, and the others are left now.
abbrev pub Yields : Option (List ℕ) → List ℕ → Option (List ℕ) → Type 0
Yields (Some old) piece (Some new) = old ≡ piece ++ new
Yields (Some old) piece None = ⊥
Yields None piece (Some new) = ⊥
Yields None piece None = Unit {0}

-- where bytes are told, the piece was put behind those taken.
abbrev pub Gains : Option (List ℕ) → List ℕ → Option (List ℕ) → Type 0
Gains (Some old) piece (Some new) = new ≡ old ++ piece
Gains (Some old) piece None = ⊥
Gains None piece (Some new) = ⊥
Gains None piece None = Unit {0}

-- what contracts see of a source or a sink over a stream of std's: the stream, how many calls were
-- made, and how many of them failed.
pub record Counted (S : Type 0) : Type 0 where
  pub stream : S
  pub calls : ℕ
  pub faults : ℕ
