-- What the end of a tick does to a world.
use Rattle.std.specs.Prelude.{ℕ, ◌+◌, min, List, [], ◌∷◌}
use Rattle.match_setup.specs.Setup.{pickup_cell}
use Rattle.match_setup.specs.declared.pickup.PickupSpot.{PickupSpot}
use Rattle.paint_rules.specs.Owners.{nobody, painted}
use Rattle.paint_rules.specs.Scene.{PaintWorld}

-- the owners after each pickup's cell becomes nobody's
unfoldable pub wiped : List PickupSpot → List ℕ → List ℕ
wiped [] owners = owners
wiped (pickup ∷ pickups) owners = wiped pickups (painted owners (pickup_cell pickup) nobody)

-- the world after the end of a tick; the time rises by one, and stays at the last time
unfoldable pub beaten : PaintWorld → PaintWorld
beaten world = record world {
  owners = wiped world.pickups world.owners;
  time = min (world.time + 1) 4294967295;
}
