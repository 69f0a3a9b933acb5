-- Numbers that follow from one another by a fixed rule.
use Rattle.std.specs.Prelude.{ℕ, zero, suc, ◌+◌, ◌*◌, ◌/◌, ◌%◌, ◌^◌}

-- the state behind a state
abbrev pub next_state : ℕ → ℕ
next_state s = (1664525 * s + 1013904223) % (2 ^ 32)

-- the state that a seed leads to by n draws
unfoldable pub state_by_draws : ℕ → ℕ → ℕ
state_by_draws seed zero = seed
state_by_draws seed (suc n) = next_state (state_by_draws seed n)

-- what is drawn below k, behind n draws
unfoldable pub drawn : ℕ → ℕ → ℕ → ℕ
drawn seed n k = (state_by_draws seed (n + 1) / 2 ^ 16) % k

-- draws from a seed: how many there were
pub record DrawsSoFar : Type 0 where
  pub seed : ℕ
  pub count : ℕ
