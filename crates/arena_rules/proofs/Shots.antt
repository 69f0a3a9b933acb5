-- The players and the shots of a world stay so while the shots fly.
use Rattle.std.proofs.Common.{◌≡◌, ◌==◌, ℕ, ◌+◌, ◌-◌, ◌≤◌, true, false, if◌then◌else◌, Option, Some, None, List, [], ◌∷◌, length, refl, sym, ◌∙◌, subst, arith, unwrap_or, ℤ, pos, negsuc}
use Rattle.std.specs.List.{All}
use Rattle.std.specs.Option.{IfSome}
use Rattle.std.proofs.lemmas.Bool.Decides.{nat_tests}
use Rattle.std.proofs.lemmas.List.Elements.{All-cons, All-head, All-tail}
use Rattle.match_setup.specs.Ground.{Grid, is_open}
use Rattle.match_setup.specs.Setup.{spot_cell}
use Rattle.arena_rules.specs.Player.{changed, holder, struck, with_gain, with_loss}
use Rattle.match_setup.specs.Facing.{ahead, open_spot, open_ahead}
use Rattle.arena_rules.specs.Beat.{hit, scored, is_live_at, Flight, Flights, flying, flown, flown_to, flown_into, flights, with_first}
use Rattle.arena_rules.specs.World.{ArePlayers, IsShot}
use Rattle.match_setup.specs.declared.face.Face.{Face}
use Rattle.arena_rules.specs.declared.player.Player.{Player}
use Rattle.arena_rules.specs.declared.shot.Shot.{Shot}
use Rattle.match_setup.specs.declared.spot.Spot.{Spot}
use Rattle.arena_rules.proofs.Changes.{length-changed}
use Rattle.arena_rules.proofs.Apart.{ArePlayers-changed, Keeps-struck, Keeps-with_gain, Keeps-with_loss}

-- a spot that is open is in the grid and on no wall
pub open_spot-open : (grid : Grid) (face : Face) (place : ℤ × ℤ) (spot : Spot) → open_spot grid face place ≡ Some spot → is_open grid spot.x spot.y ≡ true
open_spot-open grid face (pos x, pos y) spot found =
    elim (is_open grid x y) as (λ v. is_open grid x y ≡ v → (if v then Some (record { x = x; y = y; face = face }) else None) ≡ Some spot → is_open grid spot.x spot.y ≡ true) [
      | true ↦ λ free here. subst (λ (o : Option Spot). is_open grid (unwrap_or o spot).x (unwrap_or o spot).y ≡ true) here free
      | false ↦ λ _ nowhere. absurd (let e : None ≡ Some spot = nowhere in cc)
    ] refl found
open_spot-open grid face (pos x, negsuc y) spot found = absurd (let e : None ≡ Some spot = found in cc)
open_spot-open grid face (negsuc x, y) spot found = absurd (let e : None ≡ Some spot = found in cc)

-- a shot that hit
scored-kept : (grid : Grid) (players : List Player) (owner killed : ℕ) → ArePlayers grid players
    → ArePlayers grid (scored players owner killed) × (length (scored players owner killed) ≡ length players)
scored-kept grid players owner killed sound =
    elim (owner == killed) as (λ v. ArePlayers grid (changed players owner (if v then with_loss else with_gain)) ×
    (length (changed players owner (if v then with_loss else with_gain)) ≡ length players)) [
      | true ↦ (ArePlayers-changed grid players owner with_loss (Keeps-with_loss grid) sound, length-changed players owner with_loss)
      | false ↦ (ArePlayers-changed grid players owner with_gain (Keeps-with_gain grid) sound, length-changed players owner with_gain)
    ]

hit-kept : (grid : Grid) (players : List Player) (owner number : ℕ) → ArePlayers grid players → ArePlayers grid (hit players owner number) × (length (hit players owner number) ≡ length players)
unfolding hit
hit-kept grid players owner number sound =
    let after : List Player = changed players number struck in
    let kept : ArePlayers grid after = ArePlayers-changed grid players number struck (Keeps-struck grid) sound in
    let count : length after ≡ length players = length-changed players number struck in
    elim (is_live_at after number) as (λ v. ArePlayers grid (if v then after else scored after owner number) × (length (if v then after else scored after owner number) ≡ length players)) [
      | true ↦ (kept, count)
      | false ↦ ((scored-kept grid after owner number kept).0, (scored-kept grid after owner number kept).1 ∙ count)
    ]

-- what one shot leaves is of a world of as many players
record IsFlight (grid : Grid) (most : ℕ) (flight : Flight) : Type 0 where
  players : ArePlayers grid flight.players
  count : length flight.players ≡ most
  shot : IfSome flight.shot (IsShot grid most)

-- a shot that flies on
flying-kept : (grid : Grid) (count : ℕ) (shot : Shot) (spot : Spot) → IsShot grid count shot → is_open grid spot.x spot.y ≡ true → IfSome (flying shot spot) (IsShot grid count)
flying-kept grid count shot spot possible free =
    elim (shot.left - 1 == 0) as (λ v. (shot.left - 1 == 0) ≡ v → IfSome (if v then None else Some (record shot { spot = spot; left = shot.left - 1 })) (IsShot grid count)) [
      | true ↦ λ _. tt
      | false ↦ λ more. record { owner = possible.owner; free = free; left = (grind (arith, nat_tests), omega (arith, possible.left.1)) }
    ] refl

flown_into-kept : (grid : Grid) (players : List Player) (shot : Shot) (spot : Spot) (held : Option ℕ)
    → ArePlayers grid players → IsShot grid (length players) shot → is_open grid spot.x spot.y ≡ true
    → IsFlight grid (length players) (flown_into players shot spot held)
flown_into-kept grid players shot spot (Some number) sound possible free =
    record {
      players = (hit-kept grid players shot.owner number sound).0;
      count = (hit-kept grid players shot.owner number sound).1;
      shot = tt;
    }
flown_into-kept grid players shot spot None sound possible free = record { players = sound; count = refl; shot = flying-kept grid (length players) shot spot possible free }

flown_to-kept : (grid : Grid) (players : List Player) (shot : Shot) (target : Option Spot) → ArePlayers grid players
    → IsShot grid (length players) shot → ((spot : Spot) → target ≡ Some spot → is_open grid spot.x spot.y ≡ true)
    → IsFlight grid (length players) (flown_to players shot target)
flown_to-kept grid players shot None sound possible free = record { players = sound; count = refl; shot = tt }
flown_to-kept grid players shot (Some spot) sound possible free = flown_into-kept grid players shot spot (holder players (spot_cell spot)) sound possible (free spot refl)

flown-kept : (grid : Grid) (players : List Player) (shot : Shot) → ArePlayers grid players → IsShot grid (length players) shot → IsFlight grid (length players) (flown grid players shot)
unfolding flown
flown-kept grid players shot sound possible =
    flown_to-kept grid players shot (open_ahead grid shot.spot) sound possible
    (λ spot found. open_spot-open grid shot.spot.face (ahead shot.spot.face (spot_cell shot.spot)) spot found)

-- what all shots leave is of a world of as many players
pub record AreFlights (grid : Grid) (count most : ℕ) (all : Flights) : Type 0 where
  pub players : ArePlayers grid all.players
  pub number : length all.players ≡ count
  pub room : length all.shots ≤ most
  pub each : All (IsShot grid count) all.shots

with_first-kept : (grid : Grid) (count most : ℕ) (shot : Option Shot) (others : Flights)
    → IfSome shot (IsShot grid count) → AreFlights grid count most others
    → AreFlights grid count (most + 1) (with_first shot others)
with_first-kept grid count most (Some shot) others possible kept =
    record {
      players = kept.players;
      number = kept.number;
      room = omega (arith, kept.room);
      each = All-cons (IsShot grid count) shot others.shots possible kept.each;
    }
with_first-kept grid count most None others possible kept = record { players = kept.players; number = kept.number; room = omega (arith, kept.room); each = kept.each }

pub flights-kept : (grid : Grid) (players : List Player) (shots : List Shot) → ArePlayers grid players
    → All (IsShot grid (length players)) shots
    → AreFlights grid (length players) (length shots) (flights grid players shots)
unfolding flights
flights-kept grid players [] sound possible = record { players = sound; number = refl; room = omega arith; each = possible }
flights-kept grid players (shot ∷ shots) sound possible =
    let first : IsFlight grid (length players) (flown grid players shot) = flown-kept grid players shot sound (All-head (IsShot grid (length players)) shot shots possible) in
    let P : ℕ → Type 0 = λ n. All (IsShot grid n) shots in
    let others : AreFlights grid (length (flown grid players shot).players) (length shots)
    (flights grid (flown grid players shot).players shots) =
    flights-kept grid (flown grid players shot).players shots first.players
    (subst P (sym first.count) (All-tail (IsShot grid (length players)) shot shots possible)) in
    let Q : ℕ → Type 0 = λ n. AreFlights grid n (length shots) (flights grid (flown grid players shot).players shots) in
    let R : ℕ → Type 0 = λ n. AreFlights grid (length players) n (with_first (flown grid players shot).shot (flights grid (flown grid players shot).players shots)) in
    let more : length shots + 1 ≡ length (shot ∷ shots) = omega arith in
    subst R more (with_first-kept grid (length players) (length shots) (flown grid players shot).shot (flights grid (flown grid players shot).players shots) first.shot (subst Q first.count others))
