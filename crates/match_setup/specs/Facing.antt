-- Turns, and the cell ahead.
use Rattle.std.specs.Prelude.{◌+◌, ℤ, pos, negsuc, ◌-ℤ◌, if◌then◌else◌, Option, Some, None}
use Rattle.match_setup.specs.Ground.{Grid, is_open}
use Rattle.match_setup.specs.Setup.{Cell, spot_cell}
use Rattle.match_setup.specs.declared.face.Face.{Face}
use Rattle.match_setup.specs.declared.face.Face.TheVariants.{N, E, S, W}
use Rattle.match_setup.specs.declared.spot.Spot.{Spot}

-- the facing after a quarter turn to the left
abbrev pub turned_left : Face → Face
turned_left N = W
turned_left W = S
turned_left S = E
turned_left E = N

-- the facing after a quarter turn to the right
abbrev pub turned_right : Face → Face
turned_right N = E
turned_right E = S
turned_right S = W
turned_right W = N

-- the column and the row of the cell ahead, by facing; it may be outside the grid
abbrev pub ahead : Face → Cell → ℤ × ℤ
ahead N cell = (pos cell.x, pos cell.y -ℤ pos 1)
ahead E cell = (pos (cell.x + 1), pos cell.y)
ahead S cell = (pos cell.x, pos (cell.y + 1))
ahead W cell = (pos cell.x -ℤ pos 1, pos cell.y)

-- the spot at this column and row with this facing, where that is a cell of the grid and not walled
abbrev pub open_spot : Grid → Face → ℤ × ℤ → Option Spot
open_spot grid face (pos x, pos y) =
    if is_open grid x y then Some (record { x = x; y = y; face = face }) else None
open_spot grid face (pos x, negsuc y) = None
open_spot grid face (negsuc x, y) = None

-- the spot one cell ahead with the same facing, where that is a cell of the grid and not walled
abbrev pub open_ahead : Grid → Spot → Option Spot
open_ahead grid spot = open_spot grid spot.face (ahead spot.face (spot_cell spot))
