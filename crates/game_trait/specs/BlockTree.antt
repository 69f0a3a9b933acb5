-- Blocks of numbers as a tree of many roots, in which a route that a block gives leads to it.
use Rattle.std.specs.Prelude.{◌≡◌, ℕ, zero, suc, ◌+◌, ◌*◌, ◌/◌, ◌%◌, ◌^◌, ◌<◌, ◌≤◌, ◌⊎◌, false, Some, List, [], ◌∷◌, ◌++◌}
use Rattle.std.specs.Prelude.{length, slice_get, slice_index, slice_set}
use Rattle.game_trait.specs.NameTree.{has_name}

-- what tells a block's way through the tree: 12 bits choose a root, and then two bits at each step one
-- of four links
abbrev pub route_of : ℕ → ℕ → ℕ
route_of from block = (from / 8) * 2 ^ 31 + block * 8 + from % 8

-- the link by which the way goes on from the block that a link holds: behind the 4,096 roots each
-- block has four, and a link holds the place of a block and 1, or 0 for none
abbrev pub next_link : ℕ → ℕ → ℕ
next_link held rest = 4 * held + 4092 + rest % 4

-- so many steps lead from a link to a block
unfoldable pub Leads : List ℕ → ℕ → ℕ → ℕ → ℕ → Type 0
Leads links zero rest link end = slice_index links link ≡ end + 1
Leads links (suc n) rest link end =
    (0 < slice_index links link)
    × Leads links n (rest / 4) (next_link (slice_index links link) rest) end

-- the rest of a route leads from a link to a block
abbrev pub IsRoute : List ℕ → ℕ → ℕ → ℕ → Type 0
IsRoute links rest link end = (n : ℕ) × Leads links n rest link end

-- and a whole one leads there from its root
abbrev pub IsRouteTo : List ℕ → ℕ → ℕ → Type 0
IsRouteTo links route end = IsRoute links (route / 4096) (route % 4096) end

-- each link goes to no block, or to one whose own links are behind it
abbrev pub LinksRise : List ℕ → ℕ → Type 0
LinksRise links count =
    (k : ℕ) → 0 < slice_index links k
    → (k < 4 * slice_index links k + 4092) × (slice_index links k ≤ count)

-- each block's route leads to it
abbrev pub AreFound : List (ℕ × ℕ) → List ℕ → Type 0
AreFound blocks links =
    (from block at : ℕ) → slice_get blocks at ≡ Some (from, block)
    → IsRouteTo links (route_of from block) at

-- what is always true of blocks and of the links, the roots and four for each block
pub record IsBlockTree (blocks : List (ℕ × ℕ)) (links : List ℕ) : Type 0 where
  pub four : length links ≡ 4096 + 4 * length blocks
  pub rise : LinksRise links (length blocks)
  pub found : AreFound blocks links

-- before there is room there are neither blocks nor roots, and then there is a tree, with room for
-- the links of all
abbrev pub IsTreeInRoom : List (ℕ × ℕ) → List ℕ → ℕ → ℕ → Type 0
IsTreeInRoom blocks links entries room =
    ((length blocks ≡ 0) × ((length links ≡ 0) × (room ≡ 0)))
    ⊎ (IsBlockTree blocks links × (4096 + 4 * room ≤ entries))

-- one link is set, and four to nowhere are appended
abbrev pub linked : List ℕ → ℕ → ℕ → List ℕ
linked links link to = slice_set links link to ++ 0 ∷ 0 ∷ 0 ∷ 0 ∷ []

-- there is no such block, and once this link goes to one more block its route leads there
pub record IsOpen (blocks : List (ℕ × ℕ)) (links : List ℕ) (from block link : ℕ) : Type 0 where
  pub new : has_name blocks from block ≡ false
  pub free : slice_index links link ≡ 0
  pub leads : IsRouteTo (linked links link (length blocks + 1)) (route_of from block) (length blocks)

-- a block stands at a place, where it was or as the one that was appended
abbrev pub IsPlaced : List (ℕ × ℕ) → ℕ → ℕ → ℕ → List (ℕ × ℕ) → Type 0
IsPlaced old from block at new =
    ((slice_get old at ≡ Some (from, block)) × (new ≡ old))
    ⊎ ((has_name old from block ≡ false)
    × ((at ≡ length old) × (new ≡ old ++ (from, block) ∷ [])))
