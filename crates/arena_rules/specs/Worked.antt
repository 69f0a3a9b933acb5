-- The worked worlds: small ones, on a grid of 12 by 4 cells of which (6, 2) is walled, at time 7.
use Rattle.std.specs.Prelude.{ℕ, ℤ, pos, List, [], ◌∷◌, map}
use Rattle.std.specs.List.{range_with_len}
use Rattle.arena_rules.specs.World.{World}
use Rattle.match_setup.specs.declared.face.Face.TheVariants.{N, E, S}
use Rattle.match_setup.specs.declared.pickup.Kind.{Kind}
use Rattle.match_setup.specs.declared.pickup.Kind.TheVariants.{Gold}
use Rattle.arena_rules.specs.declared.pickup.Pickup.{Pickup}
use Rattle.arena_rules.specs.declared.player.Player.{Player}
use Rattle.arena_rules.specs.declared.player.State.TheVariants.{Live, Dead}
use Rattle.arena_rules.specs.declared.shot.Shot.{Shot}
use Rattle.match_setup.specs.declared.spot.Spot.{Spot}
use Rattle.match_setup.specs.Worked.{yard, at, lane}

-- a live player of this home, spot, health, ammunition and score
abbrev pub live : Spot → Spot → ℕ → ℕ → ℤ → Player
live home spot health ammo score =
    record {
      home = home;
      score = score;
      state = Live (record { spot = spot; health = health; ammo = ammo });
    }

-- a dead player of this home, wait and score
abbrev pub dead : Spot → ℕ → ℤ → Player
dead home wait score = record { home = home; score = score; state = Dead wait }

-- a shot of this owner, spot and cells left
abbrev pub shot : ℕ → Spot → ℕ → Shot
shot owner spot left = record { owner = owner; spot = spot; left = left }

-- a pickup of this cell, kind and wait
abbrev pub item : ℕ → ℕ → Kind → ℕ → Pickup
item x y kind wait = record { place = record { x = x; y = y; kind = kind }; wait = wait }

-- a world of these players, shots and pickups
abbrev pub scene : List Player → List Shot → List Pickup → World
scene players shots pickups =
    record { grid = yard; players = players; shots = shots; pickups = pickups; time = 7 }

-- the same, a beat later
abbrev pub later : List Player → List Shot → List Pickup → World
later players shots pickups =
    record { grid = yard; players = players; shots = shots; pickups = pickups; time = 8 }

-- a world of this time, in which nobody is left to change
abbrev pub idle_at : ℕ → World
idle_at time = record { grid = yard; players = []; shots = []; pickups = []; time = time }

-- ann's home, and ann alone in this spot, with health 2, ammunition 5 and score 3
abbrev pub ann_home : Spot
ann_home = at 1 1 E

abbrev pub ann_at : Spot → Player
ann_at spot = live ann_home spot 2 5 (pos 3)

abbrev pub alone_at : Spot → World
alone_at spot = scene (ann_at spot ∷ []) [] []

-- bob's home, and bob in this spot with this health
abbrev pub bob_home : Spot
bob_home = at 9 1 S

abbrev pub bob_at : Spot → ℕ → Player
bob_at spot health = live bob_home spot health 5 (pos 0)

-- n players, live and side by side in the lane
abbrev pub crowd : ℕ → World
crowd players =
    record {
      grid = lane;
      players = map (λ x. live (at x 0 N) (at x 0 N) 3 5 (pos 0)) (range_with_len 0 players);
      shots = [];
      pickups = [];
      time = 0;
    }

-- n pickups side by side in the lane
abbrev pub spread : ℕ → World
spread pickups =
    record {
      grid = lane;
      players = [];
      shots = [];
      pickups = map (λ x. item x 0 Gold 20) (range_with_len 0 pickups);
      time = 0;
    }

-- a world of ann, whose numbers are these
abbrev pub with_numbers : ℕ → ℕ → ℤ → World
with_numbers health ammo score = scene (live ann_home (at 4 1 N) health ammo score ∷ []) [] []
