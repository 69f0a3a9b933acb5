-- How large what is drawn can be, and in which places the arrivals of a tick stand.
use Rattle.std.proofs.Common.{ℕ, ◌<◌, arith}
use Rattle.std.proofs.lemmas.Bool.Decides.{nat_tests}
use Rattle.match_maker.specs.Draws.{drawn}
use Rattle.match_maker.specs.Generator.{lag, draws_before_lag}

-- what is drawn below k is below k
pub drawn-below : (seed n k : ℕ) → 0 < k → drawn seed n k < k
unfolding drawn
drawn-below seed n k h = omega (arith, h)

-- a lag is below 32
pub lag-below : (seed j mirror : ℕ) → lag seed j mirror < 32
unfolding lag
lag-below seed j mirror =
    let d = drawn-below seed (draws_before_lag j mirror) 32 (omega arith) in
    grind (arith, nat_tests)
