-- The worlds of the arena, and its rules.
use Rattle.std.specs.Prelude.{◌≡◌, ℕ, ◌≤◌, ◌<◌, ◌^◌, ◌≤ℤ◌, true, List, [], map, length, All}
use Rattle.std.specs.List.{IsDistinct}
use Rattle.game_trait.specs.Game.{Rules}
use Rattle.match_setup.specs.Ground.{Grid, IsGrid, is_open}
use Rattle.match_setup.specs.Setup.{Layout, same_cell, pickup_cell}
use Rattle.arena_rules.specs.Player.{opening_player, place, same_place}
use Rattle.arena_rules.specs.Pickup.{opening_pickup}
use Rattle.arena_rules.specs.Command.{applied}
use Rattle.arena_rules.specs.Beat.{beaten}
use Rattle.arena_rules.specs.declared.pickup.Pickup.{Pickup}
use Rattle.arena_rules.specs.declared.player.Body.{Body}
use Rattle.arena_rules.specs.declared.player.Player.{Player}
use Rattle.arena_rules.specs.declared.player.State.{State}
use Rattle.arena_rules.specs.declared.player.State.TheVariants.{Live, Dead}
use Rattle.arena_rules.specs.declared.shot.Shot.{Shot}
pub use Rattle.arena_rules.specs.Scene.{World}
use Rattle.game_trait.specs.declared.limits.TheConstants.{MOST_PLAYERS, MOST_SHOTS, MOST_PICKUPS}
use Rattle.arena_rules.specs.declared.limits.TheConstants.{MOST_HEALTH, MOST_AMMO, REACH, BEATS_DEAD, BEATS_TAKEN, GREATEST_SCORE, LEAST_SCORE}

-- the world as the match begins: every player is live at home, no shot flies, every pickup lies
-- ready, and the time is 0
abbrev pub opening_world : Layout → World
opening_world layout = record {
  grid = layout.grid;
  players = map opening_player layout.players;
  shots = [];
  pickups = map opening_pickup layout.pickups;
  time = 0;
}

-- the rules
abbrev pub arena_rules : Rules World
arena_rules = record { apply = applied; beat = beaten }

-- a live player stands in the grid and on no wall, and has numbers in their ranges
pub record IsBody (grid : Grid) (body : Body) : Type 0 where
  pub free : is_open grid body.spot.x body.spot.y ≡ true
  pub health : (1 ≤ body.health) × (body.health ≤ MOST_HEALTH)
  pub ammo : body.ammo ≤ MOST_AMMO

-- a player is live and such, or waits for a bounded number of beats
abbrev pub IsState : Grid → State → Type 0
IsState grid (Live body) = IsBody grid body
IsState grid (Dead wait) = wait ≤ BEATS_DEAD

-- a player of a world: the home too is in the grid and on no wall
pub record IsPlayer (grid : Grid) (player : Player) : Type 0 where
  pub home : is_open grid player.home.x player.home.y ≡ true
  pub score : (LEAST_SCORE ≤ℤ player.score) × (player.score ≤ℤ GREATEST_SCORE)
  pub state : IsState grid player.state

-- the players of a world: no two live ones share a cell
pub record ArePlayers (grid : Grid) (players : List Player) : Type 0 where
  pub count : length players ≤ MOST_PLAYERS
  pub each : All (IsPlayer grid) players
  pub apart : IsDistinct same_place (map place players)

-- a shot of a world with this number of players: its owner is there, it is in the grid and on no wall, and
-- has 1 cell left or more
pub record IsShot (grid : Grid) (players : ℕ) (shot : Shot) : Type 0 where
  pub owner : shot.owner < players
  pub free : is_open grid shot.spot.x shot.spot.y ≡ true
  pub left : (1 ≤ shot.left) × (shot.left ≤ REACH)

-- the shots of a world
pub record AreShots (grid : Grid) (players : ℕ) (shots : List Shot) : Type 0 where
  pub count : length shots ≤ MOST_SHOTS
  pub each : All (IsShot grid players) shots

-- a pickup of a world: it lies in the grid and on no wall, and waits for a bounded number of beats
-- at most
pub record IsPickup (grid : Grid) (pickup : Pickup) : Type 0 where
  pub free : is_open grid pickup.place.x pickup.place.y ≡ true
  pub wait : pickup.wait ≤ BEATS_TAKEN

-- the pickups of a world: no two share a cell
pub record ArePickups (grid : Grid) (pickups : List Pickup) : Type 0 where
  pub count : length pickups ≤ MOST_PICKUPS
  pub each : All (IsPickup grid) pickups
  pub apart : IsDistinct same_cell (map (λ p. pickup_cell p.place) pickups)

-- what is true of every world of an arena
pub record IsWorld (world : World) : Type 0 where
  pub grid : IsGrid world.grid
  pub players : ArePlayers world.grid world.players
  pub shots : AreShots world.grid (length world.players) world.shots
  pub pickups : ArePickups world.grid world.pickups
  pub time : world.time < 2 ^ 32
