-- The kinds of line of a match text, each with its words, its place, its count and its further
-- checks in their order.
use Rattle.std.specs.Prelude.{ℕ, ◌-◌, ◌^◌, Bool, true, false, ◌&&◌, ◌||◌, not, nat_lt, nat_le, ◌==◌, List, [], ◌∷◌, ◌++◌, length, Option, Some, None, bytes_eq, codes, slice_get, count_by}
use Rattle.std.specs.List.{list_any}
use Rattle.game_trait.specs.declared.command.Act.{Act}
use Rattle.game_trait.specs.declared.command.Command.{Command}
use Rattle.game_trait.specs.declared.limits.TheConstants.{LONGEST_MATCH, NARROWEST_GRID, WIDEST_GRID, TALLEST_GRID, MOST_MIRRORS, MOST_COPIES}
use Rattle.game_trait.specs.declared.limits.TheConstants.{LONGEST_DELAY, MOST_PLANS, MOST_PICKUPS, MOST_SCRIPT_LINES, MOST_SHOWING_LINES}
use Rattle.game_trait.specs.declared.limits.TheConstants.{GREATEST_NUMBER}
use Rattle.game_trait.specs.CommandList.{has_command}
use Rattle.match_setup.specs.declared.face.Face.{Face}
use Rattle.match_setup.specs.declared.face.Face.TheVariants.{N, E, S, W}
use Rattle.match_setup.specs.declared.pickup.Kind as pickup_kinds
use Rattle.match_setup.specs.declared.pickup.Kind.TheVariants.{Ammo, Heal, Gold}
use Rattle.match_setup.specs.declared.pickup.PickupSpot.{PickupSpot}
use Rattle.match_setup.specs.declared.spot.Spot.{Spot}
use Rattle.sync_model.specs.Schedule.{longest_delay}
use Rattle.command_lines.specs.declared.ranges.CommandRanges.{CommandRanges}
use Rattle.command_lines.specs.CommandLine.{last_player, command_form}
use Rattle.tss_io.specs.declared.cause.Cause.{Cause}
use Rattle.tss_io.specs.declared.cause.Cause.TheVariants.{Number, Place, Name, Order}
use Rattle.tss_io.specs.Forms.{number, any_word, choice, Form, only, ◌&◌, made, numbers, numbers_of}
use Rattle.tss_io.specs.Kinds.{Kind}
use Rattle.match_file.specs.declared.body.Body.{Body}
use Rattle.match_file.specs.declared.body.Stage.{Stage}
use Rattle.match_file.specs.declared.body.Stage.TheVariants.{Open, InScript, Ended}
use Rattle.match_file.specs.declared.cell.Cell.{Cell}
use Rattle.match_file.specs.declared.opening.Opening.{Opening}
use Rattle.match_file.specs.declared.player.Player.{Player}
use Rattle.match_data.specs.declared.script_line.ScriptLine.{ScriptLine}
use Rattle.match_data.specs.declared.script_line.ScriptLine.TheVariants.{Tick, Turn, Arrive, Step, World, Run, Restagger}
use Rattle.match_data.specs.Data.{most_players, most_commands, shows}
use Rattle.match_data.specs.Names.{is_name}
use Rattle.match_setup.specs.Words.{face_word, kind_word}

-- ---- where the text stands

abbrev pub is_open : Stage → Bool
is_open Open = true
is_open InScript = false
is_open Ended = false

abbrev pub is_script : Stage → Bool
is_script Open = false
is_script InScript = true
is_script Ended = false

abbrev pub is_ended : Stage → Bool
is_ended Open = false
is_ended InScript = false
is_ended Ended = true

abbrev pub is_none : {A : Type 0} → List A → Bool
is_none [] = true
is_none (a ∷ more) = false

-- ---- what is there already

-- the cell is in the grid
abbrev pub in_grid : Opening → ℕ → ℕ → Bool
in_grid o x y = nat_lt x o.width && nat_lt y o.height

-- the cell stands behind this one, row by row
abbrev pub is_behind : Cell → Option Cell → Bool
is_behind cell None = true
is_behind cell (Some other) =
    nat_lt other.y cell.y || ((other.y == cell.y) && nat_lt other.x cell.x)

-- the last of the cells
abbrev pub last_cell : List Cell → Option Cell
last_cell cells = slice_get cells (length cells - 1)

unfoldable pub has_wall : ℕ → ℕ → List Cell → Bool
has_wall x y walls = list_any (λ c. (c.x == x) && (c.y == y)) walls

unfoldable pub has_pickup : ℕ → ℕ → List PickupSpot → Bool
has_pickup x y pickups = list_any (λ p. (p.x == x) && (p.y == y)) pickups

unfoldable pub has_home : ℕ → ℕ → List Player → Bool
has_home x y players = list_any (λ p. (p.home.x == x) && (p.home.y == y)) players

-- a player of this name is there
unfoldable pub has_name : List ℕ → List Player → Bool
has_name name players = list_any (λ p. bytes_eq p.name name) players

-- each is below the next, from this one on
abbrev pub rises_from : ℕ → List ℕ → Bool
rises_from d [] = true
rises_from d (e ∷ more) = nat_lt d e && rises_from e more

abbrev pub rises : List ℕ → Bool
rises [] = true
rises (d ∷ more) = rises_from d more

-- the greatest coordinate that is a number of a line
abbrev pub greatest : ℕ
greatest = 2 ^ 32 - 1

-- ---- kinds of the opening, each of which comes once

-- a line of one number alone
abbrev pub number_kind : List ℕ → ℕ → ℕ → Kind (Unit {0}) (List ℕ) ℕ ℕ
number_kind keyword least most = record {
  keyword = keyword;
  form = λ _. only (number least most);
  stands = λ _. true;
  room = λ _ _. true;
  tests = λ _ _. [];
  put = λ _ n. n;
}

abbrev pub length_kind : Kind (Unit {0}) (List ℕ) ℕ ℕ
length_kind = number_kind (codes "length") 1 LONGEST_MATCH

abbrev pub grid_kind : Kind (Unit {0}) (List ℕ × List ℕ) (ℕ × ℕ) (ℕ × ℕ)
grid_kind = record {
  keyword = codes "grid";
  form = λ _. number NARROWEST_GRID WIDEST_GRID & only (number 1 TALLEST_GRID);
  stands = λ _. true;
  room = λ _ _. true;
  tests = λ _ _. [];
  put = λ _ sides. sides;
}

abbrev pub mirrors_kind : Kind (Unit {0}) (List ℕ) ℕ ℕ
mirrors_kind = number_kind (codes "mirrors") 1 MOST_MIRRORS

abbrev pub delays_kind : Kind (Unit {0}) (List (List ℕ)) (List ℕ) (List ℕ)
delays_kind = record {
  keyword = codes "delays";
  form = λ _. numbers 0 LONGEST_DELAY;
  stands = λ _. true;
  room = λ _ words. nat_le (length words) MOST_COPIES;
  tests = λ _ delays. (rises delays, Order) ∷ [];
  put = λ _ delays. delays;
}

abbrev pub pace_kind : List ℕ → Kind (Unit {0}) (List ℕ) ℕ ℕ
pace_kind delays = record {
  keyword = codes "pace";
  form = λ _. only (number 0 LONGEST_DELAY);
  stands = λ _. true;
  room = λ _ _. true;
  tests = λ _ n. (nat_le n (longest_delay delays), Number) ∷ [];
  put = λ _ n. n;
}

-- ---- kinds of the body

abbrev pub plan_kind : Opening → Kind Body (List (List ℕ)) (List ℕ) Body
plan_kind o = record {
  keyword = codes "plan";
  form = λ _. numbers_of (length o.delays) 0 LONGEST_DELAY;
  stands = λ b.
      is_open b.stage
      && (is_none b.walls && (is_none b.pickups && (is_none b.players && is_none b.commands)));
  room = λ b _. nat_lt (length b.plans) (MOST_PLANS - 1);
  tests = λ _ delays. (rises delays, Order) ∷ [];
  put = λ b delays. record b { plans = b.plans ++ delays ∷ [] };
}

abbrev pub wall_kind : Opening → Kind Body (List ℕ × List ℕ) Cell Body
wall_kind o = record {
  keyword = codes "wall";
  form = λ _. made (λ c. record { x = c.0; y = c.1 }) (λ c. (c.x, c.y))
      (number 0 greatest & only (number 0 greatest));
  stands = λ b. is_open b.stage && (is_none b.pickups && (is_none b.players && is_none b.commands));
  room = λ _ _. true;
  tests = λ b cell.
      (in_grid o cell.x cell.y, Place) ∷ (is_behind cell (last_cell b.walls), Order) ∷ [];
  put = λ b cell. record b { walls = b.walls ++ cell ∷ [] };
}

-- a column, a row and a kind of pickup
abbrev pub pickup_form : Form (List ℕ × (List ℕ × pickup_kinds.Kind)) (ℕ × (ℕ × pickup_kinds.Kind))
pickup_form =
    number 0 greatest & number 0 greatest & only (choice kind_word (Ammo ∷ Heal ∷ Gold ∷ []))

abbrev pub pickup_kind : Opening → Kind Body (List ℕ × (List ℕ × pickup_kinds.Kind)) PickupSpot Body
pickup_kind o = record {
  keyword = codes "pickup";
  form = λ _. made (λ p. record { x = p.0; y = p.1.0; kind = p.1.1 }) (λ p. (p.x, (p.y, p.kind)))
      pickup_form;
  stands = λ b. is_open b.stage && (is_none b.players && is_none b.commands);
  room = λ b _. nat_lt (length b.pickups) MOST_PICKUPS;
  tests = λ b p.
      (in_grid o p.x p.y, Place) ∷ (not (has_wall p.x p.y b.walls), Place)
      ∷ (not (has_pickup p.x p.y b.pickups), Place) ∷ [];
  put = λ b p. record b { pickups = b.pickups ++ p ∷ [] };
}

abbrev pub player_of : List ℕ × (ℕ × (ℕ × Face)) → Player
player_of p = record { name = p.0; home = record { x = p.1.0; y = p.1.1.0; face = p.1.1.1 } }

abbrev pub player_fields : Player → List ℕ × (ℕ × (ℕ × Face))
player_fields p = (p.name, (p.home.x, (p.home.y, p.home.face)))

-- a player may begin there: no wall, no pickup and no home is in this cell
abbrev pub home_tests : Body → Spot → List (Bool × Cause)
home_tests b home =
    (not (has_wall home.x home.y b.walls), Place)
    ∷ (not (has_pickup home.x home.y b.pickups), Place)
    ∷ (not (has_home home.x home.y b.players), Place)
    ∷ []

-- a name, a column, a row and a facing
abbrev pub player_form : Form (List ℕ × (List ℕ × (List ℕ × Face))) (List ℕ × (ℕ × (ℕ × Face)))
player_form =
    any_word & number 0 greatest & number 0 greatest & only (choice face_word (N ∷ E ∷ S ∷ W ∷ []))

abbrev pub player_kind : Opening → Kind Body (List ℕ × (List ℕ × (List ℕ × Face))) Player Body
player_kind o = record {
  keyword = codes "player";
  form = λ _. made player_of player_fields player_form;
  stands = λ b. is_open b.stage && is_none b.commands;
  room = λ b _. nat_lt (length b.players) (most_players o.version);
  tests = λ b p.
      (is_name p.name, Name)
      ∷ (not (has_name p.name b.players), Name)
      ∷ (in_grid o p.home.x p.home.y, Place)
      ∷ home_tests b p.home;
  put = λ b p. record b { players = b.players ++ p ∷ [] };
}

-- the numbers that a command of this match may have at first sight
abbrev pub ranges_of : Opening → CommandRanges
ranges_of o =
    record {
      last_time = o.length - 1;
      last_mirror = o.mirrors - 1;
      last_player = last_player o.version;
    }

abbrev pub command_kind : Opening
    → Kind Body (List ℕ × (List ℕ × (List ℕ × (List ℕ × Act)))) Command Body
command_kind o = record {
  keyword = codes "cmd";
  form = λ _. command_form o.version (ranges_of o);
  stands = λ b. is_open b.stage && not (is_none b.players);
  room = λ b _. nat_lt (length b.commands) (most_commands o.version);
  tests = λ b c.
      (nat_lt c.player (length b.players), Name)
      ∷ (not (has_command b.commands c.from c.number), Name) ∷ [];
  put = λ b c. record b { commands = b.commands ++ c ∷ [] };
}

-- ---- kinds of the script

-- a line more may come
abbrev pub has_room : List ScriptLine → Bool
has_room script = nat_lt (length script) MOST_SCRIPT_LINES

-- a line more that shows something may come
abbrev pub has_showing_room : List ScriptLine → Bool
has_showing_room script = has_room script && nat_lt (count_by shows script) MOST_SHOWING_LINES

abbrev pub script_kind : {R A : Type 0} → List ℕ → Form R A → (A → ScriptLine)
    → (List ScriptLine → Bool) → (Body → A → List (Bool × Cause)) → Kind Body R A Body
script_kind keyword form event room tests = record {
  keyword = keyword;
  form = λ _. form;
  stands = λ b. is_script b.stage;
  room = λ b _. room b.script;
  tests = tests;
  put = λ b a. record b { script = b.script ++ event a ∷ [] };
}

-- a mirror alone
abbrev pub mirror_form : Opening → Form (List ℕ) ℕ
mirror_form o = only (number 0 (o.mirrors - 1))

-- a mirror and one of its copies
abbrev pub copy_form : Opening → Form (List ℕ × List ℕ) (ℕ × ℕ)
copy_form o = number 0 (o.mirrors - 1) & only (number 0 (length o.delays - 1))

-- the mirror, and the name of what arrives there
abbrev pub arrive_form : Opening → Form (List ℕ × (List ℕ × List ℕ)) (ℕ × (ℕ × ℕ))
arrive_form o =
    number 0 (o.mirrors - 1) & number 0 (o.mirrors - 1) & only (number 0 GREATEST_NUMBER)

-- a mirror and a plan
abbrev pub plan_form : Opening → Form (List ℕ × List ℕ) (ℕ × ℕ)
plan_form o = number 0 (o.mirrors - 1) & only (number 0 (MOST_PLANS - 1))

abbrev pub tick_kind : Opening → Kind Body (List ℕ) ℕ Body
tick_kind o = script_kind (codes "tick") (mirror_form o) (λ m. Tick m) has_room (λ _ _. [])

abbrev pub turn_kind : Opening → Kind Body (List ℕ) ℕ Body
turn_kind o = script_kind (codes "turn") (mirror_form o) (λ m. Turn m) has_room (λ _ _. [])

abbrev pub arrive_kind : Opening → Kind Body (List ℕ × (List ℕ × List ℕ)) (ℕ × (ℕ × ℕ)) Body
arrive_kind o =
    script_kind (codes "arrive") (arrive_form o) (λ a. Arrive a.0 a.1.0 a.1.1) has_room
    (λ b a. (has_command b.commands a.1.0 a.1.1, Name) ∷ [])

abbrev pub step_kind : Opening → Kind Body (List ℕ × List ℕ) (ℕ × ℕ) Body
step_kind o = script_kind (codes "step") (copy_form o) (λ a. Step a.0 a.1) has_room (λ _ _. [])

abbrev pub world_kind : Opening → Kind Body (List ℕ × List ℕ) (ℕ × ℕ) Body
world_kind o =
    script_kind (codes "world") (copy_form o) (λ a. World a.0 a.1) has_showing_room (λ _ _. [])

abbrev pub run_kind : Opening → Kind Body (List ℕ × List ℕ) (ℕ × ℕ) Body
run_kind o = script_kind (codes "run") (copy_form o) (λ a. Run a.0 a.1) has_showing_room (λ _ _. [])

abbrev pub restagger_kind : Opening → Kind Body (List ℕ × List ℕ) (ℕ × ℕ) Body
restagger_kind o =
    script_kind (codes "restagger") (plan_form o) (λ a. Restagger a.0 a.1) has_room
    (λ b a. (nat_le a.1 (length b.plans), Number) ∷ [])
