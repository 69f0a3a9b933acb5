-- The worked worlds: small ones, most on a grid of 12 by 4 cells of which (6, 2) is walled, at time 7.
use Rattle.std.specs.Prelude.{ℕ, List, [], ◌∷◌}
use Rattle.match_setup.specs.Ground.{Grid, open_grid, with_wall}
use Rattle.match_setup.specs.Worked.{yard, at, lying}
use Rattle.match_setup.specs.declared.face.Face.TheVariants.{E, S}
use Rattle.match_setup.specs.declared.pickup.Kind.TheVariants.{Ammo, Gold}
use Rattle.match_setup.specs.declared.pickup.PickupSpot.{PickupSpot}
use Rattle.match_setup.specs.declared.spot.Spot.{Spot}
use Rattle.paint_rules.specs.Owners.{unowned, painted}
use Rattle.paint_rules.specs.Scene.{PaintWorld}

-- one cell more of this owner
abbrev pub mark : ℕ → ℕ → ℕ → List ℕ → List ℕ
mark x y owner owners = painted owners (record { x = x; y = y }) owner

-- where pickups lie: in (5, 1) and in (2, 3)
abbrev pub two_pickups : List PickupSpot
two_pickups = lying 5 1 Gold ∷ lying 2 3 Ammo ∷ []

-- a world of these players and owners
abbrev pub scene : List Spot → List ℕ → PaintWorld
scene players owners = record {
  grid = yard;
  players = players;
  owners = owners;
  pickups = two_pickups;
  time = 7;
}

-- the same, a beat later
abbrev pub later : List Spot → List ℕ → PaintWorld
later players owners = record {
  grid = yard;
  players = players;
  owners = owners;
  pickups = two_pickups;
  time = 8;
}

-- ann alone in this spot, with these owners
abbrev pub alone : Spot → List ℕ → PaintWorld
alone spot owners = scene (spot ∷ []) owners

-- ann in this spot and bob in (9, 1), looking south, with these owners
abbrev pub with_bob : Spot → List ℕ → PaintWorld
with_bob spot owners = scene (spot ∷ at 9 1 S ∷ []) owners

-- a world of this time, without pickups
abbrev pub idle_at : ℕ → PaintWorld
idle_at time = record {
  grid = yard;
  players = at 4 1 E ∷ [];
  owners = mark 4 1 0 unowned;
  pickups = [];
  time = time;
}

-- a grid of two rows of four cells, of which (1, 1) is walled
abbrev pub patch : Grid
patch = with_wall (open_grid 4 2) 1 1

-- two players on the patch, some of whose cells other players own
abbrev pub patched : PaintWorld
patched = record {
  grid = patch;
  players = at 0 0 E ∷ at 1 0 S ∷ [];
  owners =
      mark 0 0 0 (mark 1 0 1 (mark 3 0 25 (mark 0 1 26 (mark 2 1 31 (mark 3 1 0 unowned)))));
  pickups = [];
  time = 7;
}
