-- Names of commands by blocks of 16 numbers, each block with the places of its names.
use Rattle.std.specs.Prelude.{◌≡◌, ℕ, zero, suc, ◌+◌, ◌*◌, ◌/◌, ◌%◌, ◌≤◌, ◌==◌, Bool, cond, Some, List, [], ◌∷◌, ◌++◌, length, slice_get, slice_index, slice_index_or}
use Rattle.std.specs.List.{list_any}
use Rattle.game_trait.specs.CommandList.{same_pair}

-- blocks in the order in which they were appended, a mirror and a number each, and how many there is
-- room for
pub record NamesInRoom : Type 0 where
  pub items : List (ℕ × ℕ)
  pub room : ℕ

-- names of a tree, how many there is room for, and for how many there was when it was made
pub record NamesOfTree : Type 0 where
  pub items : List (ℕ × ℕ)
  pub room : ℕ
  pub first_room : ℕ

-- one of the names is this mirror and number
abbrev pub has_name : List (ℕ × ℕ) → ℕ → ℕ → Bool
has_name names from number = list_any (same_pair (from, number)) names

-- where the place of a name is held, whose block stands at a place
abbrev pub entry_of : ℕ → ℕ → ℕ
entry_of at number = 16 * at + number % 16

-- a name's block is there, and holds this for it
abbrev pub IsHeld : List (ℕ × ℕ) → List ℕ → ℕ → ℕ → ℕ → ℕ → Type 0
IsHeld blocks places from number at held =
    (slice_get blocks at ≡ Some (from, number / 16))
    × (slice_index places (entry_of at number) ≡ held)

-- what is always true of names, of the blocks that they are in and of the places that these hold:
-- 16 for each block, each one more than a name's, or 0 for none
pub record AreInBlocks (names blocks : List (ℕ × ℕ)) (places : List ℕ) : Type 0 where
  pub sixteen : length places ≡ 16 * length blocks
  pub alone :
      (from block at other : ℕ) → slice_get blocks at ≡ Some (from, block)
      → slice_get blocks other ≡ Some (from, block) → at ≡ other
  pub held :
      (from number place : ℕ) → slice_get names place ≡ Some (from, number)
      → (at : ℕ) × IsHeld blocks places from number at (place + 1)
  pub told :
      (from number at place : ℕ) → IsHeld blocks places from number at (place + 1)
      → slice_get names place ≡ Some (from, number)

-- the first entry that holds this
unfoldable pub entry_with : List ℕ → ℕ → ℕ
entry_with [] held = 0
entry_with (x ∷ places) held = cond {A = ℕ} (x == held) 0 (suc (entry_with places held))

-- the name that an entry is of
abbrev pub name_at : List (ℕ × ℕ) → ℕ → ℕ × ℕ
name_at blocks entry = (
  (slice_index_or blocks (entry / 16) (0, 0)).0,
  (slice_index_or blocks (entry / 16) (0, 0)).1 * 16 + entry % 16,
)

-- so many names, each of the entry that holds its place and 1
abbrev pub names_in : List (ℕ × ℕ) → List ℕ → ℕ → List (ℕ × ℕ)
names_in blocks places zero = []
names_in blocks places (suc count) =
    names_in blocks places count ++ name_at blocks (entry_with places (suc count)) ∷ []

-- there is room for so many names, each in a block of its own, also once there are none
pub record IsRoomy (count : ℕ) (blocks : NamesInRoom) (entries room first_room : ℕ) : Type 0 where
  pub in_blocks : length blocks.items + room ≤ blocks.room + count
  pub in_places : 16 * (length blocks.items + room) ≤ entries + 16 * count
  pub first_in_blocks : first_room ≤ blocks.room
  pub first_in_places : 16 * first_room ≤ entries
