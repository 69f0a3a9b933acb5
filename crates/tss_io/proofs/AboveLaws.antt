-- A number that fits is above no limit that it is within.
use Rattle.std.proofs.Common.{◌≡◌, ℕ, ◌<◌, ◌≤◌, ◌^◌, false}
use Rattle.std.specs.Prelude.{decimal}
use Rattle.tss_io.proofs.DecimalLaws.{number_of-decimal}
use Rattle.tss_io.specs.Forms.{is_canonical, is_above}
use Rattle.std.proofs.Math.Bool.{and-false}

pub not_above : (most n : ℕ) → n ≤ most → most < 2 ^ 64 → is_above most (decimal n) ≡ false
unfolding is_above
not_above most n h small = rw (number_of-decimal n most h small) (and-false (is_canonical (decimal n)))
