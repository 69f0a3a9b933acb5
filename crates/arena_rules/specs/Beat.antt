-- What the end of a tick does to a world, in four parts.
use Rattle.std.specs.Prelude.{ℕ, ◌+◌, ◌-◌, min, Bool, false, not, ◌==◌, ◌&&◌, if◌then◌else◌, List, [], ◌∷◌, ◌++◌, map, Option, Some, None, slice_get}
use Rattle.std.specs.List.{cons_option}
use Rattle.std.specs.Option.{option_map_or}
use Rattle.match_setup.specs.Ground.{Grid}
use Rattle.match_setup.specs.Setup.{spot_cell}
use Rattle.arena_rules.specs.Player.{alive, body_at_home, changed, holder, is_held, is_live, struck, with_gain, with_loss}
use Rattle.arena_rules.specs.Pickup.{waited}
use Rattle.match_setup.specs.Facing.{open_ahead}
use Rattle.arena_rules.specs.Scene.{World}
use Rattle.arena_rules.specs.declared.player.Player.{Player}
use Rattle.arena_rules.specs.declared.player.State.{State}
use Rattle.arena_rules.specs.declared.player.State.TheVariants.{Live, Dead}
use Rattle.arena_rules.specs.declared.shot.Shot.{Shot}
use Rattle.match_setup.specs.declared.spot.Spot.{Spot}

-- the player of this number is there and live
abbrev pub is_live_at : List Player → ℕ → Bool
is_live_at players number = option_map_or is_live (slice_get players number) false

-- the score of a shot's owner, after it killed the player of this number: a loss where that is the
-- owner, and else a gain
abbrev pub scored : List Player → ℕ → ℕ → List Player
scored players owner killed =
    changed players owner (if owner == killed then with_loss else with_gain)

-- the players after a shot of this owner hit the one of this number
unfoldable pub hit : List Player → ℕ → ℕ → List Player
hit players owner number =
    let after = changed players number struck in
    if is_live_at after number then after else scored after owner number

-- what a shot leaves: the players, and the shot where it flies on
pub record Flight : Type 0 where
  pub players : List Player
  pub shot : Option Shot

-- a shot in its next cell, where it has cells left then
abbrev pub flying : Shot → Spot → Option Shot
flying shot spot = let left = shot.left - 1 in
    if left == 0 then None else Some (record shot { spot = spot; left = left })

-- a shot into a cell: it hits the live player who stands there, and else it flies on
abbrev pub flown_into : List Player → Shot → Spot → Option ℕ → Flight
flown_into players shot spot (Some number) =
    record { players = hit players shot.owner number; shot = None }
flown_into players shot spot None = record { players = players; shot = flying shot spot }

-- a shot to the spot ahead: it is gone where that is outside or walled
abbrev pub flown_to : List Player → Shot → Option Spot → Flight
flown_to players shot None = record { players = players; shot = None }
flown_to players shot (Some spot) = flown_into players shot spot (holder players (spot_cell spot))

-- one shot
unfoldable pub flown : Grid → List Player → Shot → Flight
flown grid players shot = flown_to players shot (open_ahead grid shot.spot)

-- what all shots leave
pub record Flights : Type 0 where
  pub players : List Player
  pub shots : List Shot

-- a shot before others, which see what it did
abbrev pub with_first : Option Shot → Flights → Flights
with_first shot others = record { players = others.players; shots = cons_option shot others.shots }

-- the shots in list order
unfoldable pub flights : Grid → List Player → List Shot → Flights
flights grid players [] = record { players = players; shots = [] }
flights grid players (shot ∷ shots) = let first = flown grid players shot in
    with_first first.shot (flights grid first.players shots)

-- first part of a beat: each shot flies
abbrev pub shots_flown : World → World
shots_flown world = let all = flights world.grid world.players world.shots in
    record world { players = all.players; shots = all.shots }

-- a player who may return, among the players: a dead one's wait falls by one where it is above 0;
-- where it is then 0 and no live player stands in the home cell, the player is live at home
abbrev pub returned_from : List Player → Player → State → Player
returned_from players player (Live body) = player
returned_from players player (Dead wait) =
    let left = wait - 1 in
    if (left == 0) && not (is_held players (spot_cell player.home))
    then alive player (body_at_home player.home) else record player { state = Dead left }

-- a player at the end of a beat
unfoldable pub returned : List Player → Player → Player
returned players player = returned_from players player player.state

-- the players in order, each among those who went before and those who come after
unfoldable pub returns : List Player → List Player → List Player
returns before [] = before
returns before (player ∷ after) =
    returns (before ++ returned (before ++ player ∷ after) player ∷ []) after

-- second part: the dead wait and return
abbrev pub dead_returned : World → World
dead_returned world = record world { players = returns [] world.players }

-- third part: the pickups wait
abbrev pub pickups_waited : World → World
pickups_waited world = record world { pickups = map waited world.pickups }

-- fourth part: the time rises by one, and stays at the last time
abbrev pub time_risen : World → World
time_risen world = record world { time = min (world.time + 1) 4294967295 }

-- the world after the end of a tick
unfoldable pub beaten : World → World
beaten world = time_risen (pickups_waited (dead_returned (shots_flown world)))
