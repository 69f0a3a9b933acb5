-- The text of a match, line by line.
use Rattle.std.specs.Prelude.{ℕ, zero, suc, ◌==◌, if◌then◌else◌, List, [], ◌∷◌, ◌++◌, map, codes, decimal}
use Rattle.match_setup.specs.declared.pickup.PickupSpot.{PickupSpot}
use Rattle.match_setup.specs.declared.spot.Spot.{Spot}
use Rattle.match_setup.specs.Words.{face_word, kind_word}
use Rattle.match_setup.specs.Ground.{Grid, is_walled}
use Rattle.command_lines.specs.CommandLine.{command_line}
use Rattle.tss_io.specs.Lines.{spaced, lines_text}
use Rattle.match_file.specs.declared.cell.Cell.{Cell}
use Rattle.match_data.specs.declared.script_line.ScriptLine.{ScriptLine}
use Rattle.match_data.specs.declared.script_line.ScriptLine.TheVariants.{Tick, Turn, Arrive, Step, World, Run, Restagger}
use Rattle.match_data.specs.Data.{MatchData}

-- the first line
abbrev pub head_line : ℕ → List ℕ
head_line version = if version == 1 then codes "tss match 1" else codes "tss match 2"

-- a line of one number
abbrev pub number_line : List ℕ → ℕ → List ℕ
number_line word n = spaced (word ∷ decimal n ∷ [])

-- the sides of the grid
abbrev pub grid_line : ℕ → ℕ → List ℕ
grid_line width height = spaced (codes "grid" ∷ decimal width ∷ decimal height ∷ [])

-- the delays, or a further plan of them
abbrev pub delays_line : List ℕ → List ℕ
delays_line delays = spaced (codes "delays" ∷ map decimal delays)

abbrev pub plan_line : List ℕ → List ℕ
plan_line plan = spaced (codes "plan" ∷ map decimal plan)

-- a wall, a pickup, and a player with the home
abbrev pub wall_line : Cell → List ℕ
wall_line cell = spaced (codes "wall" ∷ decimal cell.x ∷ decimal cell.y ∷ [])

abbrev pub pickup_line : PickupSpot → List ℕ
pickup_line p = spaced (codes "pickup" ∷ decimal p.x ∷ decimal p.y ∷ kind_word p.kind ∷ [])

abbrev pub player_line : List ℕ → Spot → List ℕ
player_line name home =
    spaced (codes "player" ∷ name ∷ decimal home.x ∷ decimal home.y ∷ face_word home.face ∷ [])

-- a line of the script
abbrev pub script_line : ScriptLine → List ℕ
script_line (Tick mirror) = spaced (codes "tick" ∷ decimal mirror ∷ [])
script_line (Turn mirror) = spaced (codes "turn" ∷ decimal mirror ∷ [])
script_line (Arrive mirror from number) =
    spaced (codes "arrive" ∷ decimal mirror ∷ decimal from ∷ decimal number ∷ [])
script_line (Step mirror copy) = spaced (codes "step" ∷ decimal mirror ∷ decimal copy ∷ [])
script_line (World mirror copy) = spaced (codes "world" ∷ decimal mirror ∷ decimal copy ∷ [])
script_line (Run mirror copy) = spaced (codes "run" ∷ decimal mirror ∷ decimal copy ∷ [])
script_line (Restagger mirror plan) =
    spaced (codes "restagger" ∷ decimal mirror ∷ decimal plan ∷ [])

-- this cell, where it is walled
abbrev pub wall_at : Grid → ℕ → ℕ → List Cell
wall_at grid x y = if is_walled grid x y then record { x = x; y = y } ∷ [] else []

-- the walled cells of this row, in this number of columns
unfoldable pub walls_in_row : Grid → ℕ → ℕ → List Cell
walls_in_row grid y zero = []
walls_in_row grid y (suc x) = walls_in_row grid y x ++ wall_at grid x y

-- the walled cells of a grid with these numbers of columns and rows, row by row
unfoldable pub walls_of : Grid → ℕ → ℕ → List Cell
walls_of grid columns zero = []
walls_of grid columns (suc y) = walls_of grid columns y ++ walls_in_row grid y columns

-- a player's line for each name and home
unfoldable pub player_lines : List (List ℕ) → List Spot → List (List ℕ)
player_lines [] homes = []
player_lines (name ∷ names) [] = []
player_lines (name ∷ names) (home ∷ homes) = player_line name home ∷ player_lines names homes

-- the script's lines behind one that opens it, or nothing where there is no script
abbrev pub script_lines : List ScriptLine → List (List ℕ)
script_lines [] = []
script_lines (s ∷ script) = codes "script" ∷ map script_line (s ∷ script)

-- the lines up to the pace
abbrev pub opening_lines : MatchData → List (List ℕ)
opening_lines m =
    head_line m.version
    ∷ number_line (codes "length") m.length
    ∷ grid_line m.layout.grid.width m.layout.grid.height
    ∷ number_line (codes "mirrors") m.mirrors
    ∷ delays_line m.delays
    ∷ number_line (codes "pace") m.pace
    ∷ []

-- the lines of a match
unfoldable pub match_lines : MatchData → List (List ℕ)
match_lines m =
    opening_lines m
    ++ (map plan_line m.plans
    ++ (map wall_line (walls_of m.layout.grid m.layout.grid.width m.layout.grid.height)
    ++ (map pickup_line m.layout.pickups
    ++ (player_lines m.names m.layout.players
    ++ (map command_line m.commands
    ++ (script_lines m.script ++ codes "end" ∷ []))))))

-- the one text of a match
abbrev pub match_text : MatchData → List ℕ
match_text m = lines_text (match_lines m)
