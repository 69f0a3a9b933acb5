-- Who owns the cells. There are 64 rows of 64 owners, also where a grid has fewer cells.
use Rattle.std.specs.Prelude.{◌≡◌, ℕ, ◌+◌, ◌*◌, ◌<◌, ◌==◌, List, replicate, slice_index_or, slice_set}
use Rattle.game_trait.specs.Count.{times}
use Rattle.match_setup.specs.Setup.{Cell}

-- a cell's owner is the number of a player, below 32, or this number, which is nobody's
abbrev pub nobody : ℕ
nobody = 32

-- where the owner of a cell stands in the list of owners: row after row
abbrev pub cell_place : Cell → ℕ
cell_place cell = cell.x + 64 * cell.y

-- every cell is nobody's
unfoldable pub unowned : List ℕ
unowned = replicate 4096 nobody

-- who owns a cell
abbrev pub owner_of : List ℕ → Cell → ℕ
owner_of owners cell = slice_index_or owners (cell_place cell) nobody

-- the cell becomes this owner's, and the others stay whose they were
abbrev pub painted : List ℕ → Cell → ℕ → List ℕ
painted owners cell owner = slice_set owners (cell_place cell) owner

-- how many of the cells a player owns
abbrev pub owned : ℕ → List ℕ → ℕ
owned player owners = times (λ o. o == player) owners

-- beside the owners there is a count for each player, and one for nobody
abbrev pub AreCounts : List ℕ → List ℕ → Type 0
AreCounts counts owners =
    (player : ℕ) → player < 33 → slice_index_or counts player 0 ≡ owned player owners
