-- Which copies of a mirror that defers are stale.
use Rattle.std.specs.Prelude.{◌≡◌, ℕ, ◌+◌, ◌≤◌, Bool, true, false}

-- where every copy has run the whole match none are; before that all but the last, unless somebody
-- looked so shortly before that for some calls more the copies execute as they go
pub record AreDeferred (ended : Bool) (copies stale looked : ℕ) : Type 0 where
  pub drained : ended ≡ true → stale ≡ 0
  pub deferred : ended ≡ false → looked ≡ 0 → copies ≤ stale + 1
