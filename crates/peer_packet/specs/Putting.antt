-- What putting leaves in a buffer.
use Rattle.std.specs.Prelude.{List, length, take, ℕ, ◌+◌, ◌++◌, ◌≡◌}

-- these bytes stand behind what stood in front of a place, the place behind them is answered, and the
-- buffer has its length
pub record Puts (old new : List ℕ) (at behind : ℕ) (bytes : List ℕ) : Type 0 where
  pub front : take behind new ≡ take at old ++ bytes
  pub place : behind ≡ at + length bytes
  pub same : length new ≡ length old
