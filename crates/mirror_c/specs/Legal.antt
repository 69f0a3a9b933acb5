-- What an engine may be made of.
use Rattle.std.specs.Prelude.{◌≤◌, ℕ, List}
use Rattle.game_trait.specs.declared.limits.TheConstants.{MOST_ROOM}
use Rattle.host_parts.specs.Rising.{ArePlans}

-- there are plans that the delays spell, and the rooms aren't too large
abbrev pub IsLegal : List ℕ → ℕ → ℕ → ℕ → ℕ → Type 0
IsLegal delays copies ticks room restaggers =
    ((plans : List (List ℕ)) × ArePlans delays copies ticks plans)
    × ((room ≤ MOST_ROOM) × (restaggers ≤ MOST_ROOM))
