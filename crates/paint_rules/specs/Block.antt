-- The lines that show a world.
use Rattle.std.specs.Prelude.{ℕ, ◌+◌, ◌-◌, nat_lt, if◌then◌else◌, List, [], ◌∷◌, ◌++◌, map, codes, decimal}
use Rattle.std.specs.List.{range_with_len}
use Rattle.tss_io.specs.Lines.{spaced, lines_text}
use Rattle.match_setup.specs.Ground.{Grid, is_walled}
use Rattle.tss_io.specs.Lines.{line_of}
use Rattle.match_setup.specs.Words.{name_of, face_word}
use Rattle.match_setup.specs.declared.spot.Spot.{Spot}
use Rattle.paint_rules.specs.Owners.{owner_of, owned}
use Rattle.paint_rules.specs.Scene.{PaintWorld}

-- the line of a player of this name: the cell, the facing and how many cells the player owns
unfoldable pub painter_line : List ℕ → ℕ → Spot → List ℕ
painter_line name cells spot =
    line_of (codes "painter" ∷ name ∷ decimal spot.x ∷ decimal spot.y ∷ face_word spot.face
    ∷ decimal cells ∷ [])

-- the lines of players in order, of whom the first has this number
unfoldable pub painter_lines : List (List ℕ) → List ℕ → ℕ → List Spot → List ℕ
painter_lines names owners number [] = []
painter_lines names owners number (spot ∷ spots) =
    painter_line (name_of names number) (owned number owners) spot
    ++ painter_lines names owners (number + 1) spots

-- the byte of an owner: a to z are the players 0 to 25, A to F those from 26 to 31, and a dot is
-- nobody
abbrev pub owner_byte : ℕ → ℕ
owner_byte owner =
    if nat_lt owner 26 then 97 + owner else if nat_lt owner 32 then 65 + (owner - 26) else 46

-- the byte of a cell: that of its owner, and a number sign for a wall
abbrev pub cell_byte : Grid → List ℕ → ℕ → ℕ → ℕ
cell_byte grid owners x y =
    if is_walled grid x y then 35 else owner_byte (owner_of owners (record { x = x; y = y }))

-- the bytes of a row, from the west to the east
abbrev pub row_word : Grid → List ℕ → ℕ → List ℕ
row_word grid owners y = map (λ x. cell_byte grid owners x y) (range_with_len 0 grid.width)

-- the line of a row
unfoldable pub row_line : Grid → List ℕ → ℕ → List ℕ
row_line grid owners y = spaced (codes "row" ∷ row_word grid owners y ∷ [])

-- the lines of the rows, from the north to the south
abbrev pub row_lines : Grid → List ℕ → List (List ℕ)
row_lines grid owners = map (row_line grid owners) (range_with_len 0 grid.height)

-- the lines of a world: players and rows
unfoldable pub block_of : PaintWorld → List (List ℕ) → List ℕ
block_of world names =
    painter_lines names world.owners 0 world.players
    ++ lines_text (row_lines world.grid world.owners)
