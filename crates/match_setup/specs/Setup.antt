-- How a match begins: its ground, and where its pickups and players stand.
use Rattle.std.specs.Prelude.{◌≡◌, ℕ, ◌≤◌, Bool, true, ◌&&◌, ◌==◌, List, ◌++◌, map, length}
use Rattle.std.specs.List.{list_all, IsDistinct}
use Rattle.match_setup.specs.Ground.{Grid, IsGrid, is_open}
use Rattle.match_setup.specs.declared.pickup.PickupSpot.{PickupSpot}
use Rattle.match_setup.specs.declared.spot.Spot.{Spot}
use Rattle.match_setup.specs.declared.setup.Setup.{Setup}
use Rattle.game_trait.specs.declared.limits.TheConstants.{MOST_PLAYERS, MOST_PICKUPS}

-- a setup as contracts see it
pub record Layout : Type 0 where
  pub grid : Grid
  pub pickups : List PickupSpot
  pub players : List Spot

-- the ground and the two lists of a setup
abbrev pub layout_of : Setup → Layout
layout_of setup =
    record { grid = setup.ground; pickups = setup.pickups.items; players = setup.players.items }

-- a cell
pub record Cell : Type 0 where
  pub x : ℕ
  pub y : ℕ

-- two cells are one and the same
abbrev pub same_cell : Cell → Cell → Bool
same_cell a b = (a.x == b.x) && (a.y == b.y)

-- the cell of a spot
abbrev pub spot_cell : Spot → Cell
spot_cell spot = record { x = spot.x; y = spot.y }

-- the cell of a pickup
abbrev pub pickup_cell : PickupSpot → Cell
pickup_cell pickup = record { x = pickup.x; y = pickup.y }

-- the cells in use: those of the pickups, and then those of the players
abbrev pub cells_in_use : Layout → List Cell
cells_in_use layout = map pickup_cell layout.pickups ++ map spot_cell layout.players

-- a layout that a match text can give: all that stands somewhere stands in a cell of its own, in
-- the grid and off the walls
pub record IsLayout (layout : Layout) : Type 0 where
  pub grid : IsGrid layout.grid
  pub players : (1 ≤ length layout.players) × (length layout.players ≤ MOST_PLAYERS)
  pub pickups : length layout.pickups ≤ MOST_PICKUPS
  pub free : list_all (λ c. is_open layout.grid c.x c.y) (cells_in_use layout) ≡ true
  pub apart : IsDistinct same_cell (cells_in_use layout)
