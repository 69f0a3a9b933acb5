-- How the owners are kept, so that most beats have nothing to do. No rule speaks of it.
use Rattle.std.specs.Prelude.{◌≡◌, ℕ, ◌<◌, Bool, false, List, All}
use Rattle.match_setup.specs.Ground.{Grid, IsWalled}
use Rattle.match_setup.specs.Setup.{pickup_cell}
use Rattle.match_setup.specs.declared.pickup.PickupSpot.{PickupSpot}
use Rattle.paint_rules.specs.Owners.{nobody, owner_of}

-- the owners of the cells, and where pickups lie
pub record Owners : Type 0 where
  pub owners : List ℕ
  pub pickups : List PickupSpot

-- the pickups lie in reach, their cells are the walls of a ground of their own, and are nobody's
-- unless they may be owned
pub record AreMarked
    (owners : List ℕ) (pickups : List PickupSpot) (marks : Grid) (may_be_owned : Bool) : Type 0 where
  pub near : All (λ p. (p.x < 64) × (p.y < 64)) pickups
  pub marked : All (λ p. IsWalled marks p.x p.y) pickups
  pub clean : may_be_owned ≡ false → All (λ p. owner_of owners (pickup_cell p) ≡ nobody) pickups
