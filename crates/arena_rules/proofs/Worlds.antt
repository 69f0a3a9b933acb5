-- Every world of an arena is one: at the start, after each command, and after each beat.
use Rattle.std.proofs.Common.{◌≡◌, min, ◌==◌, ℕ, ◌+◌, ◌-◌, ◌<◌, ◌||◌, nat_le, true, false, if◌then◌else◌, Option, Some, None, slice_get, unwrap_or}
use Rattle.std.proofs.Common.{List, [], ◌∷◌, ◌++◌, map, length, set, refl, sym, ap, ◌∙◌, subst, arith, lit<, length-set, length-append}
use Rattle.std.specs.List.{All, AllByRecursion, IsDistinct, list_all}
use Rattle.std.proofs.lemmas.Bool.{and_parts, or_parts}
use Rattle.std.proofs.lemmas.Bool.Decides.{nat_tests}
use Rattle.std.proofs.lemmas.List.{length-map}
use Rattle.std.proofs.lemmas.List.Elements.{All-map, All-weaker, All-push, All-nil}
use Rattle.std.proofs.lemmas.List.Folds.{list_all-append, list_all-map}
use Rattle.std.proofs.lemmas.List.Sums.{AllPass-from_list_all}
use Rattle.std.proofs.lemmas.Option.{slice_get_within}
use Rattle.match_setup.specs.Ground.{Grid, is_open}
use Rattle.match_setup.specs.Setup.{Layout, Cell, same_cell, spot_cell, pickup_cell, IsLayout}
use Rattle.arena_rules.specs.Player.{opening_player, alive, turned_to, place, place_in, same_place, is_held}
use Rattle.arena_rules.specs.Pickup.{opening_pickup, ready_kind, given, waited}
use Rattle.game_trait.specs.declared.command.Act.{Act}
use Rattle.game_trait.specs.declared.command.Act.TheVariants.{Go, Left, Right, Shoot, Dash}
use Rattle.game_trait.specs.declared.command.Command.{Command}
use Rattle.game_trait.specs.declared.command.Item.{Item}
use Rattle.game_trait.specs.declared.command.Item.TheVariants.{Cmd, Beat}
use Rattle.game_trait.specs.Run.{world_of}
use Rattle.match_setup.specs.Facing.{ahead, open_ahead, turned_left, turned_right}
use Rattle.arena_rules.specs.Command.{with_player, by_player, by_live, live_in, live_of, turned, gone, gone_to, arrived, fired, shot_by, acted, applied}
use Rattle.arena_rules.specs.Beat.{flights, returns, shots_flown, dead_returned, pickups_waited, time_risen, beaten}
use Rattle.arena_rules.specs.World.{World, opening_world, arena_rules, IsBody, IsPlayer, IsShot, AreShots, IsPickup, IsWorld}
use Rattle.match_setup.specs.declared.face.Face.{Face}
use Rattle.match_setup.specs.declared.pickup.Kind.{Kind}
use Rattle.arena_rules.specs.declared.pickup.Pickup.{Pickup}
use Rattle.match_setup.specs.declared.pickup.PickupSpot.{PickupSpot}
use Rattle.arena_rules.specs.declared.player.Body.{Body}
use Rattle.arena_rules.specs.declared.player.Player.{Player}
use Rattle.arena_rules.specs.declared.player.State.{State}
use Rattle.arena_rules.specs.declared.player.State.TheVariants.{Live, Dead}
use Rattle.arena_rules.specs.declared.shot.Shot.{Shot}
use Rattle.match_setup.specs.declared.spot.Spot.{Spot}
use Rattle.match_setup.proofs.Cells.{IsDistinct-back, IsDistinct-front}
use Rattle.arena_rules.proofs.Apart.{ArePlayers-set, ArePlayers-stayed, IsPlayer-alive, IsPlayer-given, place-given, body_at, player_at, unheld}
use Rattle.arena_rules.proofs.Shots.{open_spot-open, flights-kept}
use Rattle.arena_rules.proofs.Dead.{returns-kept, length-returns}
use Rattle.arena_rules.proofs.Lying.{ArePickups-taken, ArePickups-waited}

-- players at home stand in the cells of their homes, which differ
home_apart : (cell : Cell) (homes : List Spot) → AllByRecursion (λ c. same_cell cell c ≡ false) (map spot_cell homes)
    → AllByRecursion (λ a. same_place (Some cell) a ≡ false) (map place (map opening_player homes))
home_apart cell [] apart = tt
home_apart cell (home ∷ homes) apart = (apart.0, home_apart cell homes apart.1)

homes_apart : (homes : List Spot) → IsDistinct same_cell (map spot_cell homes) → IsDistinct same_place (map place (map opening_player homes))
unfolding IsDistinct
homes_apart [] apart = tt
homes_apart (home ∷ homes) apart = (home_apart (spot_cell home) homes apart.0, homes_apart homes apart.1)

-- so do pickups
cells_lie : (places : List PickupSpot) → map (λ p. pickup_cell p.place) (map opening_pickup places) ≡ map pickup_cell places
cells_lie [] = refl
cells_lie (spot ∷ places) = ap (λ cells. pickup_cell spot ∷ cells) (cells_lie places)

-- cells that are all opens
all_open : {X : Type 0} (grid : Grid) (cell : X → Cell) (xs : List X) → list_all (λ (c : Cell). is_open grid c.x c.y) (map cell xs) ≡ true → All (λ x. is_open grid (cell x).x (cell x).y ≡ true) xs
all_open grid cell xs opens = AllPass-from_list_all (λ x. is_open grid (cell x).x (cell x).y) xs (sym (list_all-map (λ (c : Cell). is_open grid c.x c.y) cell xs) ∙ opens)

opening_possible : (grid : Grid) (home : Spot) → is_open grid home.x home.y ≡ true → IsPlayer grid (opening_player home)
opening_possible grid home opens = record { home = opens; score = (omega arith, omega arith); state = record { free = opens; health = (omega arith, omega arith); ammo = omega arith } }

-- the opening world is one
pub IsWorld-opening_world : (layout : Layout) → IsLayout layout → IsWorld (opening_world layout)
IsWorld-opening_world layout possible =
    let opens = and_parts _ _ (sym (list_all-append (λ (c : Cell). is_open layout.grid c.x c.y) (map pickup_cell layout.pickups) (map spot_cell layout.players)) ∙ possible.free) in
    record {
      grid = possible.grid;
      players = record {
        count = let l : length (map opening_player layout.players) ≡ length layout.players = length-map layout.players opening_player in omega (arith, l, possible.players.1);
        each = All-map (IsPlayer layout.grid) opening_player layout.players
            (All-weaker (λ home. is_open layout.grid home.x home.y ≡ true)
            (λ home. IsPlayer layout.grid (opening_player home)) (opening_possible layout.grid) layout.players
            (all_open layout.grid spot_cell layout.players opens.1));
        apart = homes_apart layout.players (IsDistinct-back same_cell (map pickup_cell layout.pickups) (map spot_cell layout.players) possible.apart);
      };
      shots = record { count = omega arith; each = All-nil (IsShot layout.grid (length (map opening_player layout.players))) };
      pickups = record {
        count = let l : length (map opening_pickup layout.pickups) ≡ length layout.pickups = length-map layout.pickups opening_pickup in omega (arith, l, possible.pickups);
        each = All-map (IsPickup layout.grid) opening_pickup layout.pickups
            (All-weaker (λ spot. is_open layout.grid spot.x spot.y ≡ true)
            (λ spot. IsPickup layout.grid (opening_pickup spot))
            (λ spot opens. record { free = opens; wait = omega arith }) layout.pickups
            (all_open layout.grid pickup_cell layout.pickups opens.0));
        apart = rw cells_lie (IsDistinct-front same_cell (map pickup_cell layout.pickups) (map spot_cell layout.players) possible.apart);
      };
      time = lit< tt;
    }

-- a live player is there
live_in-is : (there player : Player) (state : State) (body : Body) → there.state ≡ state → live_in there state ≡ Some (player, body) → (there ≡ player) × (player.state ≡ Live body)
live_in-is there player (Live old) body state found =
    let same : there ≡ player = ap (λ (o : Option (Player × Body)). (unwrap_or o (there, old)).0) found in
    let bodies : old ≡ body = ap (λ (o : Option (Player × Body)). (unwrap_or o (there, old)).1) found in
    (same, sym (ap (λ (p : Player). p.state) same) ∙ state ∙ ap Live bodies)
live_in-is there player (Dead wait) body state found = absurd (let e : None ≡ Some (player, body) = found in cc)

pub live_of-is : (there : Option Player) (player : Player) (body : Body) → live_of there ≡ Some (player, body) → (there ≡ Some player) × (player.state ≡ Live body)
live_of-is None player body found = absurd (let e : None ≡ Some (player, body) = found in cc)
live_of-is (Some there) player body found = let is = live_in-is there player there.state body refl found in (ap Some is.0, is.1)

-- a change by a live player
by_live-kept : (world : World) (live : Option (Player × Body)) (change : Player → Body → World) → IsWorld world
    → ((player : Player) (body : Body) → live ≡ Some (player, body) → IsWorld (change player body))
    → IsWorld (by_live world live change)
by_live-kept world None change sound kept = sound
by_live-kept world (Some (player, body)) change sound kept = kept player body refl

by_player-kept : (world : World) (number : ℕ) (change : Player → Body → World) → IsWorld world
    → ((player : Player) (body : Body) → slice_get world.players number ≡ Some player → player.state ≡ Live body
    → IsWorld (change player body)) → IsWorld (by_player world number change)
by_player-kept world number change sound kept =
    by_live-kept world (live_of (slice_get world.players number)) change sound
    (λ player body live. let is = live_of-is (slice_get world.players number) player body live in
    kept player body is.0 is.1)

-- the shots of a world where a player is replaced
shots-kept : (world : World) (number : ℕ) (player : Player) → IsWorld world → AreShots world.grid (length (set world.players number player)) world.shots
shots-kept world number player sound = let P : ℕ → Type 0 = λ n. AreShots world.grid n world.shots in subst P (sym (length-set world.players number player)) sound.shots

-- a live player with another body in the same cell
pub IsWorld-stayed : (world : World) (number : ℕ) (player : Player) (old new : Body) → IsWorld world
    → slice_get world.players number ≡ Some player → player.state ≡ Live old → IsBody world.grid new
    → spot_cell new.spot ≡ spot_cell old.spot
    → IsWorld (record world { players = set world.players number (alive player new) })
IsWorld-stayed world number player old new sound there live possible stays = record {
  grid = sound.grid;
  players = ArePlayers-stayed world.grid world.players number player (alive player new) sound.players there
      (IsPlayer-alive world.grid player new (player_at world.grid world.players number player sound.players there)
      possible) (ap Some stays ∙ sym (ap place_in live));
  shots = shots-kept world number (alive player new) sound;
  pickups = sound.pickups;
  time = sound.time;
}

-- a turn
pub IsWorld-faced : (world : World) (number : ℕ) (player : Player) (body : Body) (face : Face) → IsWorld world
    → slice_get world.players number ≡ Some player → player.state ≡ Live body
    → IsWorld (with_player world number (alive player (turned_to body face)))
IsWorld-faced world number player body face sound there live =
    let stands : IsBody world.grid body = body_at world.grid player body (player_at world.grid world.players number player sound.players there) live in
    IsWorld-stayed world number player body (turned_to body face) sound there live (record { free = stands.free; health = stands.health; ammo = stands.ammo }) refl

pub IsWorld-turned : (world : World) (number : ℕ) (turn : Face → Face) → IsWorld world → IsWorld (turned world number turn)
IsWorld-turned world number turn sound = by_player-kept world number _ sound (λ player body there live. IsWorld-faced world number player body (turn body.spot.face) sound there live)

-- a shot
pub IsWorld-fired : (world : World) (number : ℕ) (player : Player) (body : Body) → IsWorld world → slice_get world.players number ≡ Some player → player.state ≡ Live body → length world.shots < 64
    → IsWorld (record world {
      players = set world.players number (alive player (record body { ammo = body.ammo - 1 }));
      shots = world.shots ++ record { owner = number; spot = body.spot; left = 8 } ∷ [];
    })
IsWorld-fired world number player body sound there live room =
    let stands : IsBody world.grid body = body_at world.grid player body (player_at world.grid world.players number player sound.players there) live in
    let less : Body = record body { ammo = body.ammo - 1 } in
    let shot : Shot = record { owner = number; spot = body.spot; left = 8 } in
    let kept : IsWorld (record world { players = set world.players number (alive player less) }) =
    IsWorld-stayed world number player body less sound there live
    (record { free = stands.free; health = stands.health; ammo = omega (arith, stands.ammo) }) refl in
    let within : number < length (set world.players number (alive player less)) =
    omega (
      arith,
      length-set world.players number (alive player less),
      slice_get_within world.players number player there,
    ) in
    record {
      grid = kept.grid;
      players = kept.players;
      shots = record {
        count = omega (arith, length-append world.shots (shot ∷ []));
        each = All-push (IsShot world.grid (length (set world.players number (alive player less)))) world.shots shot
            kept.shots.each (record { owner = within; free = stands.free; left = (omega arith, omega arith) });
      };
      pickups = kept.pickups;
      time = kept.time;
    }

fired-kept : (world : World) (number : ℕ) (player : Player) (body : Body) → IsWorld world
    → slice_get world.players number ≡ Some player → player.state ≡ Live body → IsWorld (fired world number player body)
fired-kept world number player body sound there live =
    elim ((body.ammo == 0) || nat_le 64 (length world.shots)) as
    (λ v. ((body.ammo == 0) || nat_le 64 (length world.shots)) ≡ v
    → IsWorld (if v then world else record world {
      players = set world.players number (alive player (record body { ammo = body.ammo - 1 }));
      shots = world.shots
          ++ record { owner = number; spot = body.spot; left = 8 } ∷ [];
    })) [
      | true ↦ λ _. sound
      | false ↦ λ room.
          let few : nat_le 64 (length world.shots) ≡ false = (or_parts (body.ammo == 0) (nat_le 64 (length world.shots)) room).1 in
          IsWorld-fired world number player body sound there live (grind (arith, nat_tests))
    ] refl

pub IsWorld-shot_by : (world : World) (number : ℕ) → IsWorld world → IsWorld (shot_by world number)
IsWorld-shot_by world number sound = by_player-kept world number (fired world number) sound (λ player body there live. fired-kept world number player body sound there live)

-- a step
pub IsWorld-arrived : (world : World) (number : ℕ) (player : Player) (body : Body) (spot : Spot) → IsWorld world
    → slice_get world.players number ≡ Some player → player.state ≡ Live body → is_open world.grid spot.x spot.y ≡ true
    → is_held world.players (spot_cell spot) ≡ false
    → IsWorld (arrived world number player (record body { spot = spot }))
IsWorld-arrived world number player body spot sound there live free unheld_there =
    let possible : IsPlayer world.grid player = player_at world.grid world.players number player sound.players there in
    let stands : IsBody world.grid body = body_at world.grid player body possible live in
    let kind : Option Kind = ready_kind world.pickups (spot_cell spot) in
    let new : Player = given player (record body { spot = spot }) kind in
    record {
      grid = sound.grid;
      players = ArePlayers-set world.grid world.players number new sound.players
          (IsPlayer-given world.grid player (record body { spot = spot }) kind possible (record { free = free; health = stands.health; ammo = stands.ammo }))
          (rw (place-given player (record body { spot = spot }) kind) (unheld world.players (spot_cell spot) unheld_there));
      shots = shots-kept world number new sound;
      pickups = ArePickups-taken world.grid world.pickups (spot_cell spot) sound.pickups;
      time = sound.time;
    }

gone_to-kept : (world : World) (number : ℕ) (player : Player) (body : Body) (target : Option Spot) → IsWorld world
    → slice_get world.players number ≡ Some player → player.state ≡ Live body
    → ((spot : Spot) → target ≡ Some spot → is_open world.grid spot.x spot.y ≡ true)
    → IsWorld (gone_to world number player body target)
gone_to-kept world number player body None sound there live free = sound
gone_to-kept world number player body (Some spot) sound there live free =
    elim (is_held world.players (spot_cell spot)) as (λ v. is_held world.players (spot_cell spot) ≡ v → IsWorld (if v then world else arrived world number player (record body { spot = spot }))) [
      | true ↦ λ _. sound
      | false ↦ λ unheld_there. IsWorld-arrived world number player body spot sound there live (free spot refl) unheld_there
    ] refl

pub IsWorld-gone : (world : World) (number : ℕ) → IsWorld world → IsWorld (gone world number)
unfolding gone
IsWorld-gone world number sound = by_player-kept world number _ sound
    (λ player body there live. gone_to-kept world number player body (open_ahead world.grid body.spot) sound there live
    (λ spot found. open_spot-open world.grid body.spot.face (ahead body.spot.face (spot_cell body.spot)) spot found))

-- a command
IsWorld-acted : (world : World) (number : ℕ) (act : Act) → IsWorld world → IsWorld (acted world number act)
IsWorld-acted world number Go sound = IsWorld-gone world number sound
IsWorld-acted world number Left sound = IsWorld-turned world number turned_left sound
IsWorld-acted world number Right sound = IsWorld-turned world number turned_right sound
IsWorld-acted world number Shoot sound = IsWorld-shot_by world number sound
IsWorld-acted world number Dash sound = IsWorld-gone (gone world number) number (IsWorld-gone world number sound)

pub IsWorld-applied : (world : World) (x : Command) → IsWorld world → IsWorld (applied world x)
unfolding applied
IsWorld-applied world x sound = IsWorld-acted world x.player x.act sound

-- a beat
shots_flown-kept : (world : World) → IsWorld world → IsWorld (shots_flown world)
shots_flown-kept world sound =
    let all = flights-kept world.grid world.players world.shots sound.players sound.shots.each in
    let P : ℕ → Type 0 = λ n. All (IsShot world.grid n) (flights world.grid world.players world.shots).shots in
    record {
      grid = sound.grid;
      players = all.players;
      shots = record { count = omega (arith, all.room, sound.shots.count); each = subst P (sym all.number) all.each };
      pickups = sound.pickups;
      time = sound.time;
    }

dead_returned-kept : (world : World) → IsWorld world → IsWorld (dead_returned world)
dead_returned-kept world sound =
    let P : ℕ → Type 0 = λ n. AreShots world.grid n world.shots in
    record {
      grid = sound.grid;
      players = returns-kept world.grid [] world.players sound.players;
      shots = subst P (omega (arith, length-returns [] world.players)) sound.shots;
      pickups = sound.pickups;
      time = sound.time;
    }

pickups_waited-kept : (world : World) → IsWorld world → IsWorld (pickups_waited world)
pickups_waited-kept world sound = record { grid = sound.grid; players = sound.players; shots = sound.shots; pickups = ArePickups-waited world.grid world.pickups sound.pickups; time = sound.time }

time_risen-kept : (world : World) → IsWorld world → IsWorld (time_risen world)
time_risen-kept world sound = record { grid = sound.grid; players = sound.players; shots = sound.shots; pickups = sound.pickups; time = omega arith }

pub IsWorld-beaten : (world : World) → IsWorld world → IsWorld (beaten world)
unfolding beaten
IsWorld-beaten world sound =
    let flown = shots_flown-kept world sound in
    let returned = dead_returned-kept (shots_flown world) flown in
    time_risen-kept _ (pickups_waited-kept _ returned)

-- a run
pub IsWorld-world_of : (run : List Item) (world : World) → IsWorld world → IsWorld (world_of arena_rules world run)
unfolding world_of
IsWorld-world_of [] world sound = sound
IsWorld-world_of (Cmd x ∷ run) world sound = IsWorld-world_of run (applied world x) (IsWorld-applied world x sound)
IsWorld-world_of (Beat ∷ run) world sound = IsWorld-world_of run (beaten world) (IsWorld-beaten world sound)

-- the four parts of a beat, one by one
pub beaten_by_parts : (world : World) (players returned_players : List Player) (shots : List Shot) (pickups : List Pickup) (time : ℕ)
    → flights world.grid world.players world.shots ≡ record { players = players; shots = shots }
    → returned_players ≡ returns [] players → pickups ≡ map waited world.pickups → time ≡ min (world.time + 1) 4294967295
    → record { grid = world.grid; players = returned_players; shots = shots; pickups = pickups; time = time } ≡ beaten world
unfolding beaten
beaten_by_parts world players returned_players shots pickups time flight back later risen = rw (flight, back, later, risen) refl
