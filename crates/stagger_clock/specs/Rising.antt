-- Whether numbers are a schedule, as a test.
use Rattle.std.specs.Prelude.{ℕ, Bool, true, false, nat_lt, nat_le, ◌&&◌, List, [], ◌∷◌, length}
use Rattle.game_trait.specs.declared.limits.TheConstants.{LONGEST_DELAY, LONGEST_MATCH, MOST_COPIES}

-- each delay is above the one before, and none is too long
abbrev pub rises_from : ℕ → List ℕ → Bool
rises_from before [] = true
rises_from before (delay ∷ more) =
    (nat_lt before delay && nat_le delay LONGEST_DELAY) && rises_from delay more

-- the same from the first delay on, which there is
abbrev pub is_plan : List ℕ → Bool
is_plan [] = false
is_plan (first ∷ more) = nat_le first LONGEST_DELAY && rises_from first more

-- a match may be so long
abbrev pub is_length : ℕ → Bool
is_length ticks = nat_lt 0 ticks && nat_le ticks LONGEST_MATCH

-- the delays and the length are a schedule
unfoldable pub is_schedule : List ℕ → ℕ → Bool
is_schedule delays ticks =
    nat_le (length delays) MOST_COPIES && (is_plan delays && is_length ticks)
