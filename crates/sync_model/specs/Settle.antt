-- Settling: how the runs that an event proposes are made one chain again, from the last copy to the
-- first.
use Rattle.std.specs.Prelude.{ℕ, Bool, false, not, if◌then◌else◌, List, [], ◌∷◌, ◌++◌}
use Rattle.std.specs.List.{starts_with}
use Rattle.game_trait.specs.declared.command.Command.{Command}
use Rattle.game_trait.specs.declared.command.Item.{Item}
use Rattle.game_trait.specs.Run.{beats, same_item}
use Rattle.game_trait.specs.Ordered.{ordered}
use Rattle.game_trait.specs.Count.{times}

-- whether a run begins with the run behind it
abbrev pub begins_with : List Item → List Item → Bool
begins_with ahead behind = starts_with same_item ahead behind

-- the run behind, and the ordered part up to where the proposed run stood
abbrev pub rebuilt : List Command → List Item → List Item → List Item
rebuilt accepted proposed behind = behind ++ ordered accepted (beats behind) (beats proposed)

-- one copy before settled copies: its proposed run where that begins with the run behind it, and
-- else it is repaired
unfoldable pub settle_one : List Command → List Item → List (List Item) → List (List Item)
settle_one accepted proposed [] = proposed ∷ []
settle_one accepted proposed (behind ∷ rest) =
    (if begins_with proposed behind then proposed else rebuilt accepted proposed behind) ∷ behind
    ∷ rest

-- the settled runs, from the last copy to the first
unfoldable pub settle : List Command → List (List Item) → List (List Item)
settle accepted [] = []
settle accepted (proposed ∷ behind) = settle_one accepted proposed (settle accepted behind)

-- whether a copy before settled copies is repaired
unfoldable pub is_repaired : List Item → List (List Item) → Bool
is_repaired proposed [] = false
is_repaired proposed (behind ∷ rest) = not (begins_with proposed behind)

-- which copies are repaired, from copy 0 on
unfoldable pub which_repaired : List Command → List (List Item) → List Bool
which_repaired accepted [] = []
which_repaired accepted (proposed ∷ behind) =
    is_repaired proposed (settle accepted behind) ∷ which_repaired accepted behind

-- how many copies are repaired
abbrev pub repaired : List Command → List (List Item) → ℕ
repaired accepted proposed = times (λ b. b) (which_repaired accepted proposed)
