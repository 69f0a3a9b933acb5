-- How the parts of a world are kept, so that most questions are answered by one pass over plain
-- numbers. No rule speaks of it.
use Rattle.std.specs.Prelude.{◌≡◌, ℕ, ◌+◌, ◌-◌, ◌*◌, ◌≤◌, Bool, true, false, if◌then◌else◌, List, map, take, length, All, Option, option_map, find}
use Rattle.game_trait.specs.declared.limits.TheConstants.{MOST_PLAYERS, MOST_PICKUPS}
use Rattle.std.specs.List.{list_all}
use Rattle.match_setup.specs.Setup.{Cell}
use Rattle.arena_rules.specs.Player.{is_live}
use Rattle.arena_rules.specs.Pickup.{lies_ready}
use Rattle.match_setup.specs.declared.pickup.Kind.{Kind}
use Rattle.arena_rules.specs.declared.pickup.Pickup.{Pickup}
use Rattle.arena_rules.specs.declared.player.Player.{Player}
use Rattle.arena_rules.specs.declared.player.State.{State}
use Rattle.arena_rules.specs.declared.player.State.TheVariants.{Live, Dead}
use Rattle.arena_rules.specs.declared.resting.Resting.{Resting}
use Rattle.arena_rules.specs.declared.limits.TheConstants.{BEATS_TAKEN}

-- the number of a cell
abbrev pub cell_number : ℕ → ℕ → ℕ
cell_number x y = x + 256 * y

-- the number of the cell in which a live player stands, and one of no grid's cell for a dead one
abbrev pub place_number : State → ℕ
place_number (Live body) = cell_number body.spot.x body.spot.y
place_number (Dead wait) = 65535

-- the players, no more than a match has, and at the front of a table their numbers; where nobody may
-- be dead all are live
pub record AreNumbered (players : List Player) (numbers : List ℕ) (may_be_dead : Bool) :
    Type 0 where
  pub count : length players ≤ MOST_PLAYERS
  pub front : take (length players) numbers ≡ map (λ p. place_number p.state) players
  pub live : may_be_dead ≡ false → list_all is_live players ≡ true

-- a pickup as it is seen after n beats
abbrev pub seen_at : ℕ → Resting → Pickup
seen_at beats resting = record { place = resting.place; wait = resting.until - beats }

-- a pickup after someone came to this cell
abbrev pub emptied_at : ℕ → Cell → Resting → Resting
emptied_at beats cell resting =
    if lies_ready cell (seen_at beats resting) then record resting { until = beats + BEATS_TAKEN }
    else resting

-- a pickup with the beats counted from now on
abbrev pub counted_anew : ℕ → Resting → Resting
counted_anew beats resting = record resting { until = resting.until - beats }

-- the kind of the pickup that lies ready in this cell
abbrev pub ready_kind_at : ℕ → List Resting → Cell → Option Kind
ready_kind_at beats pickups cell =
    option_map (λ p. p.place.kind) (find (λ p. lies_ready cell (seen_at beats p)) pickups)

-- the pickups, no more than a match has, each of which waits for at most 20 beats, and at the front
-- of a table the numbers of their cells
pub record AreResting (pickups : List Resting) (numbers : List ℕ) (beats : ℕ) : Type 0 where
  pub count : length pickups ≤ MOST_PICKUPS
  pub front : take (length pickups) numbers ≡ map (λ p. cell_number p.place.x p.place.y) pickups
  pub waits : All (λ p. p.until - beats ≤ BEATS_TAKEN) pickups
  pub room : beats ≤ 4294967275
