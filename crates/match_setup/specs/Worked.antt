-- Small setups to compute with, on a grid of 12 by 4 cells of which (6, 2) is walled, and commands.
use Rattle.std.specs.Prelude.{ℕ, List, [], ◌∷◌, map}
use Rattle.std.specs.List.{range_with_len}
use Rattle.game_trait.specs.declared.command.Act.{Act}
use Rattle.game_trait.specs.declared.command.Command.{Command}
use Rattle.match_setup.specs.Ground.{Grid, open_grid, with_wall}
use Rattle.match_setup.specs.Setup.{Layout}
use Rattle.match_setup.specs.declared.face.Face.{Face}
use Rattle.match_setup.specs.declared.face.Face.TheVariants.{N, E}
use Rattle.match_setup.specs.declared.pickup.Kind.{Kind}
use Rattle.match_setup.specs.declared.pickup.Kind.TheVariants.{Gold}
use Rattle.match_setup.specs.declared.pickup.PickupSpot.{PickupSpot}
use Rattle.match_setup.specs.declared.spot.Spot.{Spot}

-- the ground
abbrev pub yard : Grid
yard = with_wall (open_grid 12 4) 6 2

abbrev pub at : ℕ → ℕ → Face → Spot
at x y face = record { x = x; y = y; face = face }

-- a command of the player of this number
abbrev pub by : ℕ → Act → Command
by player act = record { time = 0; from = 0; number = 0; player = player; act = act }

-- a layout with the yard as its ground
abbrev pub layout : List PickupSpot → List Spot → Layout
layout pickups players = record { grid = yard; pickups = pickups; players = players }

abbrev pub lying : ℕ → ℕ → Kind → PickupSpot
lying x y kind = record { x = x; y = y; kind = kind }

-- a grid of one row without walls, wide enough for as many as can be
abbrev pub lane : Grid
lane = open_grid 64 1

-- pickups, and behind them players, side by side in the lane
abbrev pub side_by_side : ℕ → ℕ → Layout
side_by_side pickups players = record {
  grid = lane;
  pickups = map (λ x. lying x 0 Gold) (range_with_len 0 pickups);
  players = map (λ x. at x 0 N) (range_with_len pickups players);
}

-- a layout of one player on this ground
abbrev pub on_ground : Grid → Layout
on_ground grid = record { grid = grid; pickups = []; players = at 0 0 E ∷ [] }
