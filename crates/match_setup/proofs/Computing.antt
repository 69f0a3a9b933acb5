-- The definitions that small layouts compute with.
use Rattle.std.proofs.Common.{ℕ}
use Rattle.match_setup.specs.Ground.{is_walled, with_wall, is_open}

-- named on a line of its own, this opens them all
unfoldable pub computing : ℕ
unfolding is_walled with_wall is_open
computing = 0
