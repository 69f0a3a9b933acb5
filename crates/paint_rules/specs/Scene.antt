-- A world as contracts see it.
use Rattle.std.specs.Prelude.{ℕ, ◌+◌, List, [], ◌∷◌}
use Rattle.match_setup.specs.Ground.{Grid}
use Rattle.match_setup.specs.Setup.{Layout, spot_cell}
use Rattle.match_setup.specs.declared.pickup.PickupSpot.{PickupSpot}
use Rattle.match_setup.specs.declared.spot.Spot.{Spot}
use Rattle.paint_rules.specs.Owners.{unowned, painted}

-- the ground, the cell and facing of each player in the order of their lines, the owners of the
-- cells, where pickups lie, and the time
pub record PaintWorld : Type 0 where
  pub grid : Grid
  pub players : List Spot
  pub owners : List ℕ
  pub pickups : List PickupSpot
  pub time : ℕ

-- the owners after players of rising numbers, the first of which is this one, came to their homes
unfoldable pub settled : ℕ → List Spot → List ℕ → List ℕ
settled number [] owners = owners
settled number (home ∷ homes) owners =
    settled (number + 1) homes (painted owners (spot_cell home) number)

-- the world as the match begins: each player is at home, and the home cell is that player's; all
-- else is nobody's
abbrev pub opening : Layout → PaintWorld
opening layout = record {
  grid = layout.grid;
  players = layout.players;
  owners = settled 0 layout.players unowned;
  pickups = layout.pickups;
  time = 0;
}
