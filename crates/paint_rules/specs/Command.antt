-- What commands do to a world.
use Rattle.std.specs.Prelude.{ℕ, zero, suc, Bool, if◌then◌else◌, List, Option, Some, None, slice_get, slice_set}
use Rattle.std.specs.List.{list_any}
use Rattle.std.specs.Option.{option_map_or}
use Rattle.game_trait.specs.declared.command.Act.{Act}
use Rattle.game_trait.specs.declared.command.Act.TheVariants.{Go, Left, Right, Shoot, Dash}
use Rattle.game_trait.specs.declared.command.Command.{Command}
use Rattle.match_setup.specs.Ground.{Grid}
use Rattle.match_setup.specs.Setup.{Cell, same_cell, spot_cell}
use Rattle.match_setup.specs.Facing.{turned_left, turned_right, open_ahead}
use Rattle.match_setup.specs.declared.face.Face.{Face}
use Rattle.match_setup.specs.declared.spot.Spot.{Spot}
use Rattle.paint_rules.specs.Owners.{painted}
use Rattle.paint_rules.specs.Scene.{PaintWorld}

-- a change of the world by a player who stands in this spot; nothing changes where there is none
abbrev pub by_one : PaintWorld → Option Spot → (Spot → PaintWorld) → PaintWorld
by_one world None change = world
by_one world (Some spot) change = change spot

-- the same by the player of this number
abbrev pub by_player : PaintWorld → ℕ → (Spot → PaintWorld) → PaintWorld
by_player world number change = by_one world (slice_get world.players number) change

-- the world with the player of this number in another spot
abbrev pub with_spot : PaintWorld → ℕ → Spot → PaintWorld
with_spot world number spot = record world { players = slice_set world.players number spot }

-- the world after the player of this number turns
abbrev pub turned : PaintWorld → ℕ → (Face → Face) → PaintWorld
turned world number turn =
    by_player world number (λ spot. with_spot world number (record spot { face = turn spot.face }))

-- a player stands in this cell
unfoldable pub is_held : List Spot → Cell → Bool
is_held players cell = list_any (λ p. same_cell cell (spot_cell p)) players

-- the world after a player comes to this spot: the cell becomes the player's
abbrev pub come : PaintWorld → ℕ → Spot → PaintWorld
come world number spot = record world {
  players = slice_set world.players number spot;
  owners = painted world.owners (spot_cell spot) number;
}

-- the world after a player moves to this spot, if there is one and no player stands there
abbrev pub moved_to : PaintWorld → ℕ → Option Spot → PaintWorld
moved_to world number None = world
moved_to world number (Some spot) =
    if is_held world.players (spot_cell spot) then world else come world number spot

-- the world after the player of this number goes one cell ahead
unfoldable pub moved : PaintWorld → ℕ → PaintWorld
moved world number =
    by_player world number (λ spot. moved_to world number (open_ahead world.grid spot))

-- the owners after a number of cells ahead of this spot, in order, become the player's, up to the first
-- that is outside or walled
unfoldable pub painted_ahead : Grid → ℕ → ℕ → Spot → List ℕ → List ℕ
painted_ahead grid number zero spot owners = owners
painted_ahead grid number (suc cells) spot owners =
    option_map_or
    (λ next. painted_ahead grid number cells next (painted owners (spot_cell next) number))
    (open_ahead grid spot) owners

-- the world after the player of this number shoots: three cells ahead
abbrev pub shot : PaintWorld → ℕ → PaintWorld
shot world number = by_player world number
    (λ spot. record world { owners = painted_ahead world.grid number 3 spot world.owners })

-- the world after the player of this number goes, and then goes again
abbrev pub dashed : PaintWorld → ℕ → PaintWorld
dashed world number = moved (moved world number) number

-- the world after an act of the player of this number
abbrev pub acted : PaintWorld → ℕ → Act → PaintWorld
acted world number Go = moved world number
acted world number Left = turned world number turned_left
acted world number Right = turned world number turned_right
acted world number Shoot = shot world number
acted world number Dash = dashed world number

-- the world after a command
unfoldable pub applied : PaintWorld → Command → PaintWorld
applied world x = acted world x.player x.act
