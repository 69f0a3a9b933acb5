-- The match that a number makes.
use Rattle.std.specs.Prelude.{ℕ, zero, suc, ◌+◌, ◌-◌, ◌*◌, ◌/◌, ◌%◌, ◌==◌, nat_lt, if◌then◌else◌, List, [], ◌∷◌, ◌++◌, codes, decimal}
use Rattle.game_trait.specs.declared.command.Command.{Command}
use Rattle.game_trait.specs.declared.command.Act.{Act}
use Rattle.game_trait.specs.declared.command.Act.TheVariants.{Go, Left, Right, Shoot}
use Rattle.match_setup.specs.declared.face.Face.{Face}
use Rattle.match_setup.specs.declared.face.Face.TheVariants.{N, E, S, W}
use Rattle.match_setup.specs.declared.pickup.Kind.{Kind}
use Rattle.match_setup.specs.declared.pickup.Kind.TheVariants.{Ammo, Heal, Gold}
use Rattle.match_setup.specs.declared.pickup.PickupSpot.{PickupSpot}
use Rattle.match_setup.specs.declared.spot.Spot.{Spot}
use Rattle.match_setup.specs.Ground.{Grid, open_grid, with_wall}
use Rattle.match_setup.specs.Setup.{Layout}
use Rattle.match_data.specs.Data.{MatchData}
use Rattle.match_data.specs.declared.script_line.ScriptLine.{ScriptLine}
use Rattle.match_data.specs.declared.script_line.ScriptLine.TheVariants.{Arrive, Turn}
use Rattle.match_maker.specs.Below.{joined_below, each_below}
use Rattle.match_maker.specs.Draws.{drawn}

-- ---- the arena

-- the ground with the first n walls: one in each cell with x mod 8 = 4 and y mod 8 = 4
unfoldable pub walled_grid : ℕ → Grid
walled_grid zero = open_grid 32 32
walled_grid (suc i) = with_wall (walled_grid i) (8 * (i % 4) + 4) (8 * (i / 4) + 4)

-- pickup i: its cell and its kind
unfoldable pub kind_at : ℕ → Kind
kind_at i = if i % 3 == 0 then Ammo else if i % 3 == 1 then Heal else Gold

-- they lie side by side in the first row
abbrev pub pickup_at : ℕ → PickupSpot
pickup_at i = record { x = i; y = 0; kind = kind_at i }

-- player i: the home and the name
unfoldable pub face_at : ℕ → Face
face_at i = if i % 4 == 0 then N else if i % 4 == 1 then E else if i % 4 == 2 then S else W

abbrev pub home_at : ℕ → Spot
home_at i = record { x = 2 * i; y = 2; face = face_at i }

abbrev pub name_at : ℕ → List ℕ
name_at i = codes "p" ++ decimal i

-- how the world begins
abbrev pub the_layout : Layout
the_layout = record {
  grid = walled_grid 16;
  pickups = each_below pickup_at 32;
  players = each_below home_at 16;
}

-- ---- the commands

-- the act of a number below 8
unfoldable pub act_of : ℕ → Act
act_of a = if nat_lt a 4 then Go else if a == 4 then Left else if a == 5 then Right else Shoot

-- command j: 8 of them in each tick, one of each mirror. Nine draws are made for it: the player,
-- the act, and then a lag for each mirror but the sender
abbrev pub command_at : ℕ → ℕ → Command
command_at seed j = record {
  time = j / 8;
  from = j % 8;
  number = j / 8;
  player = drawn seed (9 * j) 16;
  act = act_of (drawn seed (9 * j + 1) 8);
}

-- how many draws there were before the lag of command j at this mirror, for which none is drawn at
-- the sender
abbrev pub draws_before_lag : ℕ → ℕ → ℕ
draws_before_lag j mirror = 9 * j + 2 + (if nat_lt (j % 8) mirror then mirror - 1 else mirror)

-- how many ticks behind its time command j arrives at this mirror
unfoldable pub lag : ℕ → ℕ → ℕ → ℕ
lag seed j mirror = if mirror == j % 8 then 0 else drawn seed (draws_before_lag j mirror) 32

-- ---- the script

-- command j arrives at this mirror in this tick of the script, or not
unfoldable pub arrival_lines : ℕ → ℕ → ℕ → ℕ → List ScriptLine
arrival_lines seed tick mirror j =
    if j / 8 + lag seed j mirror == tick then Arrive mirror (j % 8) (j / 8) ∷ [] else []

-- what arrives at a mirror in a tick
abbrev pub arrivals : ℕ → ℕ → ℕ → List ScriptLine
arrivals seed tick mirror = joined_below (arrival_lines seed tick mirror) 4096

-- a tick of the script at a mirror: the arrivals, and then a turn
abbrev pub mirror_lines : ℕ → ℕ → ℕ → List ScriptLine
mirror_lines seed tick mirror = arrivals seed tick mirror ++ Turn mirror ∷ []

-- a tick of the script at all mirrors
abbrev pub tick_lines : ℕ → ℕ → List ScriptLine
tick_lines seed tick = joined_below (mirror_lines seed tick) 8

-- ---- the match

-- the match that a number makes
abbrev pub match_of_number : ℕ → MatchData
match_of_number seed = record {
  version = 1;
  length = 512;
  mirrors = 8;
  delays = 0 ∷ 4 ∷ 8 ∷ 16 ∷ 32 ∷ [];
  plans = [];
  pace = 32;
  layout = the_layout;
  names = each_below name_at 16;
  commands = each_below (command_at seed) 4096;
  script = joined_below (tick_lines seed) 544;
}
