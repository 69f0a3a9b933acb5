-- The worlds of the game, and its rules.
use Rattle.std.specs.Prelude.{◌≡◌, ℕ, ◌<◌, ◌≤◌, true, false, List, length, map, All}
use Rattle.std.specs.List.{AllByRecursion, IsDistinct}
use Rattle.game_trait.specs.Game.{Rules}
use Rattle.game_trait.specs.declared.limits.TheConstants.{MOST_PLAYERS, MOST_PICKUPS}
use Rattle.match_setup.specs.Ground.{Grid, IsGrid, is_open}
use Rattle.match_setup.specs.Setup.{same_cell, spot_cell}
use Rattle.match_setup.specs.declared.pickup.PickupSpot.{PickupSpot}
use Rattle.match_setup.specs.declared.spot.Spot.{Spot}
use Rattle.paint_rules.specs.Owners.{nobody, owner_of}
use Rattle.paint_rules.specs.Command.{applied}
use Rattle.paint_rules.specs.Beat.{beaten}
pub use Rattle.paint_rules.specs.Scene.{PaintWorld}

-- the rules
abbrev pub paint_rules : Rules PaintWorld
paint_rules = record { apply = applied; beat = beaten }

-- a pickup lies in the grid and on no wall
abbrev pub Lies : Grid → PickupSpot → Type 0
Lies grid pickup = is_open grid pickup.x pickup.y ≡ true

-- a player stands in the grid and on no wall
abbrev pub Stands : Grid → Spot → Type 0
Stands grid player = is_open grid player.x player.y ≡ true

-- the owners of a world: there are 64 rows of 64, each is a number below 32 or nobody's, and what
-- isn't in the grid, or is walled, is nobody's
pub record AreOwners (grid : Grid) (owners : List ℕ) : Type 0 where
  pub whole : length owners ≡ 4096
  pub known : AllByRecursion (λ o. o ≤ nobody) owners
  pub shut : (x y : ℕ) → x < 64 → is_open grid x y ≡ false
      → owner_of owners (record { x = x; y = y }) ≡ nobody

-- what is true of every world of the game: no two players share a cell
pub record IsPaintWorld (world : PaintWorld) : Type 0 where
  pub grid : IsGrid world.grid
  pub players : length world.players ≤ MOST_PLAYERS
  pub stand : AllByRecursion (Stands world.grid) world.players
  pub apart : IsDistinct same_cell (map spot_cell world.players)
  pub owners : AreOwners world.grid world.owners
  pub count : length world.pickups ≤ MOST_PICKUPS
  pub pickups : All (Lies world.grid) world.pickups
