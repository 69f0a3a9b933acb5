-- What was read is a match.
use Rattle.std.proofs.Common.{◌≡◌, ℕ, ◌+◌, ◌<◌, ◌≤◌, Bool, true, false, cond, eqb, ltb, ◌&&◌, ◌||◌, List, [], ◌∷◌, ◌++◌, length, map, filter, refl, sym, ap}
use Rattle.std.proofs.Common.{◌∙◌, length-append, append_assoc, lit≤, arith}
use Rattle.std.specs.Prelude.{bytes_eq, not, count_by}
use Rattle.std.specs.List.{AllByRecursion, IsDistinct, list_any, list_all}
use Rattle.std.proofs.lemmas.Bool.{ltb-true, leb-true, and_parts, not-true}
use Rattle.std.proofs.lemmas.List.{length-map, map-append, append-nil}
use Rattle.std.proofs.lemmas.List.Elements.{filter-append}
use Rattle.std.proofs.lemmas.List.Sums.{length-filter}
use Rattle.game_trait.specs.declared.command.Command.{Command}
use Rattle.game_trait.specs.declared.limits.TheConstants.{LONGEST_MATCH, MOST_COPIES, LONGEST_DELAY, MOST_PICKUPS, MOST_PLAYERS, MOST_PLAYERS_IN_1, MOST_SCRIPT_LINES, MOST_SHOWING_LINES}
use Rattle.game_trait.specs.Keys.{NamesDiffer}
use Rattle.game_trait.proofs.CommandLists.{names-push}
use Rattle.match_setup.specs.declared.pickup.PickupSpot.{PickupSpot}
use Rattle.match_setup.specs.declared.spot.Spot.{Spot}
use Rattle.match_setup.specs.Ground.{Grid, IsGrid, open_grid, is_walled, is_open}
use Rattle.match_setup.specs.Setup.{same_cell, spot_cell, pickup_cell}
use Rattle.match_setup.proofs.Walls.{is_walled-open_grid, IsGrid-open_grid}
use Rattle.sync_model.specs.Schedule.{IsSchedule, DelaysRise}
use Rattle.tss_io.specs.Forms.{InRange, AreNumbers}
use Rattle.tss_io.specs.Kinds.{EachAfter}
use Rattle.tss_io.proofs.EachLaws.{each_keeps, each_of, each_fewer}
use Rattle.tss_base.proofs.ListLaws.{all_push, all_map, all_to, distinct_push, any_map, any_append, list_all_of}
use Rattle.match_file.specs.declared.body.Body.{Body}
use Rattle.match_file.specs.declared.body.Stage.{Stage}
use Rattle.match_file.specs.declared.body.Stage.TheVariants.{Open, InScript, Ended}
use Rattle.match_file.specs.declared.cell.Cell.{Cell}
use Rattle.match_file.specs.declared.opening.Opening.{Opening}
use Rattle.match_file.specs.declared.player.Player.{Player}
use Rattle.match_data.specs.declared.script_line.ScriptLine.{ScriptLine}
use Rattle.match_data.specs.declared.script_line.ScriptLine.TheVariants.{Tick, Turn, Arrive, Step, World, Run, Restagger}
use Rattle.match_data.specs.Data.{most_players, most_commands, IsScriptLine, shows, IsMatch}
use Rattle.match_data.specs.Names.{is_name}
use Rattle.match_file.specs.Kinds.{is_open as stage_open, is_ended, is_none, in_grid, last_cell, has_wall, has_pickup, has_home, has_name, rises, rises_from}
use Rattle.match_file.specs.Reading.{walled, match_of}
use Rattle.match_file.specs.Sections.{PlanRight, WallRight, PickupRight, PlayerRight, CommandRight, ScriptRight, IsRead}
use Rattle.match_file.proofs.OpeningLaws.{opening_small}
use Rattle.match_file.proofs.WallLaws.{place, InGrid, LastSmall, next_place, last_push, last_step, behind_place, walled_width, walled_height, walled_grid, walled_has, rises_push}
use Rattle.tss_base.proofs.ListLaws.{all_append}

-- ---- delays

rises_all : (d : ℕ) (ds : List ℕ) → rises_from d ds ≡ true → AllByRecursion (λ e. d < e) ds × DelaysRise ds
unfolding DelaysRise
rises_all d [] h = (tt, tt)
rises_all d (e ∷ ds) h =
    let parts = and_parts (ltb d e) (rises_from e ds) h in
    let less = ltb-true _ _ parts.0 in
    let rest = rises_all e ds parts.1 in
    ((less, all_to (λ f. e < f) (λ f. d < f) (λ f lt. omega arith) ds rest.0), rest)

pub delays_rise : (ds : List ℕ) → rises ds ≡ true → DelaysRise ds
unfolding DelaysRise
delays_rise [] h = tt
delays_rise (d ∷ ds) h = rises_all d ds h

pub is_schedule : (ticks : ℕ) (delays : List ℕ) → InRange 1 LONGEST_MATCH ticks → AreNumbers 0 LONGEST_DELAY delays
    → length delays ≤ MOST_COPIES → rises delays ≡ true → IsSchedule (record { delays = delays; length = ticks })
is_schedule ticks delays long are few rise = record {
  some_copy = are.some;
  few_copies = few;
  delays_rise = delays_rise delays rise;
  short_delays = all_to (InRange 0 LONGEST_DELAY) (λ d. d ≤ LONGEST_DELAY) (λ d r. r.1) delays are.each;
  some_tick = long.0;
  few_ticks = long.1;
}

-- ---- walls

-- what the walls so far keep
record WallsSoFar (o : Opening) (before : List Cell) : Type 0 where
  within : InGrid o.width o.height before
  rise : DelaysRise (map place before)
  below : AllByRecursion (λ n. n < next_place before) (map place before)
  last : LastSmall (last_cell before)
  few : length before ≤ next_place before

no_walls : (o : Opening) → WallsSoFar o []
unfolding DelaysRise
no_walls o = record { within = tt; rise = tt; below = tt; last = tt; few = lit≤ tt }

wall_more : (o : Opening) → o.width ≤ 64 → (before : List Cell) (c : Cell) → WallsSoFar o before → WallRight o before c → WallsSoFar o (before ++ c ∷ [])
wall_more o narrow before c w r =
    let in_it = and_parts (ltb c.x o.width) (ltb c.y o.height) r.tests.0 in
    let x = ltb-true _ _ in_it.0 in
    let y = ltb-true _ _ in_it.1 in
    let behind = behind_place c (last_cell before) w.last r.tests.1.0 in
    let below : AllByRecursion (λ n. n < place c) (map place before) = all_to (λ n. n < next_place before) (λ n. n < place c) (λ n lt. omega arith) (map place before) w.below in
    let counted = w.few in
    record {
      within = all_push (λ e. (e.x < o.width) × (e.y < o.height)) before c w.within (x, y);
      rise = rw (map-append place before (c ∷ [])) (rises_push (map place before) (place c) w.rise below);
      below = rw (last_push before c, map-append place before (c ∷ []))
          (all_push (λ n. n < place c + 1) (map place before) (place c)
          (all_to (λ n. n < place c) (λ n. n < place c + 1) (λ n lt. omega arith) (map place before) below)
          (omega arith));
      last = rw (last_push before c) (omega arith);
      few = rw (last_push before c, length-append before (c ∷ [])) (omega arith);
    }

walls_kept : (o : Opening) → o.width ≤ 64 → (walls : List Cell) → EachAfter (WallRight o) [] walls → WallsSoFar o walls
walls_kept o narrow walls h = each_keeps (WallRight o) (WallsSoFar o) (wall_more o narrow) [] walls (no_walls o) h

pub walls_within : (o : Opening) → o.width ≤ 64 → (walls : List Cell) → EachAfter (WallRight o) [] walls → InGrid o.width o.height walls
walls_within o narrow walls h = (walls_kept o narrow walls h).within

pub walls_rising : (o : Opening) → o.width ≤ 64 → (walls : List Cell) → EachAfter (WallRight o) [] walls → DelaysRise (map place walls)
walls_rising o narrow walls h = (walls_kept o narrow walls h).rise

last_place : (width height : ℕ) (cells : List Cell) → width ≤ 64 → height ≤ 64 → InGrid width height cells → next_place cells ≤ 4096
last_place width height [] narrow low h = lit≤ tt
last_place width height (c ∷ []) narrow low h = let x = h.0.0 in let y = h.0.1 in omega arith
last_place width height (c ∷ d ∷ cells) narrow low h = rw (last_step c d cells) (last_place width height (d ∷ cells) narrow low h.1)

-- no more walls than cells
pub walls_few : (o : Opening) → o.width ≤ 64 → o.height ≤ 64 → (walls : List Cell) → EachAfter (WallRight o) [] walls → length walls ≤ 4096
walls_few o narrow low walls h = let k = walls_kept o narrow walls h in let few = k.few in let most = last_place o.width o.height walls narrow low k.within in omega arith

-- ---- where things stand

no_wall : (b : Bool) → not b ≡ true → not (b || false) ≡ true
no_wall true h = absurd cc
no_wall false h = refl

no_pickup : (x y : ℕ) (pickups : List PickupSpot) → not (has_pickup x y pickups) ≡ true → list_any (λ p. eqb p.x x && eqb p.y y) pickups ≡ false
unfolding has_pickup
no_pickup x y pickups h = not-true _ h

no_home : (x y : ℕ) (players : List Player) → not (has_home x y players) ≡ true → list_any (λ p. eqb p.home.x x && eqb p.home.y y) players ≡ false
unfolding has_home
no_home x y players h = not-true _ h

no_name : (name : List ℕ) (players : List Player) → not (has_name name players) ≡ true → list_any (λ p. bytes_eq p.name name) players ≡ false
unfolding has_name
no_name name players h = not-true _ h

no_cells : IsDistinct same_cell []
unfolding IsDistinct
no_cells = tt

no_names : IsDistinct bytes_eq []
unfolding IsDistinct
no_names = tt

no_commands : NamesDiffer []
unfolding NamesDiffer
no_commands = tt

free_cell : (o : Opening) (walls : List Cell) (x y : ℕ) → IsGrid (open_grid o.width o.height)
    → InGrid o.width o.height walls → in_grid o x y ≡ true → not (has_wall x y walls) ≡ true
    → is_open (walled (open_grid o.width o.height) walls) x y ≡ true
unfolding is_open is_walled
free_cell o walls x y is within inside free =
    let parts = and_parts (ltb x o.width) (ltb y o.height) inside in
    rw (
      walled_width (open_grid o.width o.height) walls,
      walled_height (open_grid o.width o.height) walls,
      parts.0,
      parts.1,
      walled_has (open_grid o.width o.height) walls x y is within,
      is_walled-open_grid o.width o.height x y,
    )
    (no_wall (has_wall x y walls) free)

pickups_free : (o : Opening) (walls : List Cell) (pickups : List PickupSpot) → IsGrid (open_grid o.width o.height) → InGrid o.width o.height walls → EachAfter (PickupRight o walls) [] pickups
    → AllByRecursion (λ p. is_open (walled (open_grid o.width o.height) walls) p.x p.y ≡ true) pickups
pickups_free o walls pickups is within h = each_of (PickupRight o walls) _ (λ before p r. free_cell o walls p.x p.y is within r.tests.0 r.tests.1.0) [] pickups h

homes_free : (o : Opening) (walls : List Cell) (pickups : List PickupSpot) (players : List Player)
    → IsGrid (open_grid o.width o.height) → InGrid o.width o.height walls
    → EachAfter (PlayerRight o walls pickups) [] players
    → AllByRecursion (λ p. is_open (walled (open_grid o.width o.height) walls) p.home.x p.home.y ≡ true) players
homes_free o walls pickups players is within h = each_of (PlayerRight o walls pickups) _ (λ before p r. free_cell o walls p.home.x p.home.y is within r.tests.1.1.0 r.tests.1.1.1.0) [] players h

abbrev homes : List Player → List Spot
homes players = map (λ p. p.home) players

all_free : (g : Grid) (pickups : List PickupSpot) (players : List Player) → AllByRecursion (λ p. is_open g p.x p.y ≡ true) pickups → AllByRecursion (λ p. is_open g p.home.x p.home.y ≡ true) players
    → list_all (λ c. is_open g c.x c.y) (map pickup_cell pickups ++ map spot_cell (homes players)) ≡ true
all_free g pickups players h k =
    list_all_of _ _ (all_append (λ c. is_open g c.x c.y ≡ true) (map pickup_cell pickups)
    (map spot_cell (homes players)) (all_map _ pickup_cell pickups h)
    (all_map _ spot_cell (homes players) (all_map _ (λ p. p.home) players k)))

pickups_apart : (o : Opening) (walls : List Cell) (pickups : List PickupSpot) → EachAfter (PickupRight o walls) [] pickups → IsDistinct same_cell (map pickup_cell pickups)
pickups_apart o walls pickups h =
    each_keeps (PickupRight o walls) (λ before. IsDistinct same_cell (map pickup_cell before))
    (λ before p inv r. rw (map-append pickup_cell before (p ∷ []))
    (distinct_push same_cell (map pickup_cell before) (pickup_cell p) inv
    (any_map _ pickup_cell before ∙ no_pickup p.x p.y before r.tests.1.1.0)))
    [] pickups no_cells h

cells_apart : (o : Opening) (walls : List Cell) (pickups : List PickupSpot) (players : List Player)
    → IsDistinct same_cell (map pickup_cell pickups) → EachAfter (PlayerRight o walls pickups) [] players
    → IsDistinct same_cell (map pickup_cell pickups ++ map spot_cell (homes players))
cells_apart o walls pickups players first h =
    each_keeps (PlayerRight o walls pickups) (λ before. IsDistinct same_cell (map pickup_cell pickups ++ map spot_cell (homes before)))
    (λ before p inv r.
    let e : map pickup_cell pickups ++ map spot_cell (homes (before ++ p ∷ []))
    ≡ (map pickup_cell pickups ++ map spot_cell (homes before)) ++ spot_cell p.home
    ∷ [] = rw (map-append (λ p. p.home) before (p ∷ []), map-append spot_cell (homes before) (p.home ∷ []))
    (sym (append_assoc (map pickup_cell pickups) (map spot_cell (homes before)) (spot_cell p.home ∷ []))) in
    rw e (distinct_push same_cell (map pickup_cell pickups ++ map spot_cell (homes before)) (spot_cell p.home) inv
    (any_append _ (map pickup_cell pickups) (map spot_cell (homes before))
    ∙ rw (
      any_map (λ c. same_cell c (spot_cell p.home)) pickup_cell pickups,
      no_pickup p.home.x p.home.y pickups r.tests.1.1.1.1.0,
      any_map (λ c. same_cell c (spot_cell p.home)) spot_cell (homes before),
      any_map (λ s. same_cell (spot_cell s) (spot_cell p.home)) (λ p. p.home) before,
    )
    (no_home p.home.x p.home.y before r.tests.1.1.1.1.1.0))))
    [] players (rw (append-nil (map pickup_cell pickups)) first) h

-- ---- names

names_apart : (o : Opening) (walls : List Cell) (pickups : List PickupSpot) (players : List Player)
    → EachAfter (PlayerRight o walls pickups) [] players → IsDistinct bytes_eq (map (λ p. p.name) players)
names_apart o walls pickups players h =
    each_keeps (PlayerRight o walls pickups) (λ before. IsDistinct bytes_eq (map (λ p. p.name) before))
    (λ before p inv r. rw (map-append (λ p. p.name) before (p ∷ []))
    (distinct_push bytes_eq (map (λ p. p.name) before) p.name inv
    (any_map (λ n. bytes_eq n p.name) (λ p. p.name) before ∙ no_name p.name before r.tests.1.0)))
    [] players no_names h

commands_apart : (o : Opening) (players : List Player) (commands : List Command) → EachAfter (CommandRight o players) [] commands → NamesDiffer commands
commands_apart o players commands h =
    each_keeps (CommandRight o players) NamesDiffer (λ before c inv r. names-push before c inv (not-true _ r.tests.1.0)) [] commands no_commands h

-- ---- the script

script_right : (o : Opening) (b : Body) → 1 ≤ o.mirrors → 1 ≤ length o.delays → (before : List ScriptLine) (x : ScriptLine) → ScriptRight o b.plans b.commands before x → IsScriptLine (match_of o b) x
script_right o b some copies before (Tick m) r = let top = r.fits.1 in omega arith
script_right o b some copies before (Turn m) r = let top = r.fits.1 in omega arith
script_right o b some copies before (Arrive m f n) r = let top = r.fits.0.1 in let from = r.fits.1.0.1 in (omega arith, omega arith, r.fits.1.1.1, r.tests.0)
script_right o b some copies before (Step m c) r = let top = r.fits.0.1 in let copy = r.fits.1.1 in (omega arith, omega arith)
script_right o b some copies before (World m c) r = let top = r.fits.0.1 in let copy = r.fits.1.1 in (omega arith, omega arith)
script_right o b some copies before (Run m c) r = let top = r.fits.0.1 in let copy = r.fits.1.1 in (omega arith, omega arith)
script_right o b some copies before (Restagger m p) r = let top = r.fits.0.1 in (omega arith, leb-true _ _ r.tests.0)

pub script_room : (o : Opening) (plans commands before : _) (x : ScriptLine) → ScriptRight o plans commands before x → length before < MOST_SCRIPT_LINES
script_room o plans commands before (Tick m) r = ltb-true _ _ r.room
script_room o plans commands before (Turn m) r = ltb-true _ _ r.room
script_room o plans commands before (Arrive m f n) r = ltb-true _ _ r.room
script_room o plans commands before (Step m c) r = ltb-true _ _ r.room
script_room o plans commands before (World m c) r = ltb-true _ _ (and_parts (ltb (length before) MOST_SCRIPT_LINES) _ r.room).0
script_room o plans commands before (Run m c) r = ltb-true _ _ (and_parts (ltb (length before) MOST_SCRIPT_LINES) _ r.room).0
script_room o plans commands before (Restagger m p) r = ltb-true _ _ r.room

one_kept : (x : ScriptLine) (n : ℕ) → n + length (filter shows (x ∷ [])) ≡ n + cond (shows x) 1 0
one_kept x n = elim (shows x) as (λ t. n + length (cond {A = List ScriptLine} t (x ∷ []) []) ≡ n + cond t 1 0) [ true ↦ refl | false ↦ refl ]

pub count_push : (xs : List ScriptLine) (x : ScriptLine) → count_by shows (xs ++ x ∷ []) ≡ count_by shows xs + cond (shows x) 1 0
count_push xs x =
    sym (length-filter shows (xs ++ x ∷ [])) ∙ ap length (filter-append shows xs (x ∷ []))
    ∙ length-append (filter shows xs) (filter shows (x ∷ []))
    ∙ rw (length-filter shows xs) (one_kept x (count_by shows xs))

script_shown : (o : Opening) (plans commands before : _) (x : ScriptLine) → count_by shows before ≤ MOST_SHOWING_LINES
    → ScriptRight o plans commands before x → count_by shows before + cond (shows x) 1 0 ≤ MOST_SHOWING_LINES
script_shown o plans commands before (Tick m) le r = omega arith
script_shown o plans commands before (Turn m) le r = omega arith
script_shown o plans commands before (Arrive m f n) le r = omega arith
script_shown o plans commands before (Step m c) le r = omega arith
script_shown o plans commands before (World m c) le r =
    let less = ltb-true _ _ (and_parts (ltb (length before) MOST_SCRIPT_LINES)
    (ltb (count_by shows before) MOST_SHOWING_LINES) r.room).1 in omega arith
script_shown o plans commands before (Run m c) le r =
    let less = ltb-true _ _ (and_parts (ltb (length before) MOST_SCRIPT_LINES)
    (ltb (count_by shows before) MOST_SHOWING_LINES) r.room).1 in omega arith
script_shown o plans commands before (Restagger m p) le r = omega arith

-- ---- the whole

pub some_players : (players : List Player) → is_none players ≡ false → 1 ≤ length players
some_players [] h = absurd cc
some_players (p ∷ players) h = omega arith

pub few_players : (version : ℕ) → most_players version ≤ 32
few_players version = elim (eqb version 1) as (λ t. cond t MOST_PLAYERS_IN_1 MOST_PLAYERS ≤ 32) [ true ↦ lit≤ tt | false ↦ lit≤ tt ]

ended_not_open : (stage : Stage) → is_ended stage ≡ true → stage_open stage ≡ false
ended_not_open Open h = absurd cc
ended_not_open InScript h = absurd cc
ended_not_open Ended h = refl

pub is_match_of : (o : Opening) (b : Body) → IsRead o b → IsMatch (match_of o b)
is_match_of o b read =
    let is = read.opening in
    let h = read.body in
    let small = opening_small o is in
    let narrow = is.grid.fits.0.1 in
    let open_is = IsGrid-open_grid o.width o.height is.grid.fits.0.0 is.grid.fits.0.1 is.grid.fits.1.0 is.grid.fits.1.1 in
    let within = walls_within o narrow b.walls h.walls in
    let named : length (map (λ p. p.name) b.players) ≡ length b.players = length-map b.players (λ p. p.name) in
    let homed : length (homes b.players) ≡ length b.players = length-map b.players (λ p. p.home) in
    let few = each_fewer (PlayerRight o b.walls b.pickups) (most_players o.version) (λ before p r. ltb-true _ _ r.room) b.players h.players in
    let most = few_players o.version in
    let some = some_players b.players (h.begun (ended_not_open b.stage read.ended)) in
    let planned = each_fewer (PlanRight o) 7 (λ before p r. ltb-true _ _ r.room) b.plans h.plans in
    let copies = is.delays.fits.some in
    record {
      version = is.version;
      ticks = is.length.fits;
      mirrors = is.mirrors.fits;
      delays = is_schedule o.length o.delays is.length.fits is.delays.fits small.copies is.delays.tests.0;
      plan_count = omega arith;
      plans = each_of (PlanRight o) _ (λ before p r. (
        is_schedule o.length p is.length.fits r.fits.0
            (let wide = r.fits.1 in let cs = small.copies in omega arith) r.tests.0,
        r.fits.1,
      )) [] b.plans h.plans;
      pace = leb-true _ _ is.pace.tests.0;
      layout = record {
        grid = walled_grid (open_grid o.width o.height) b.walls open_is within;
        players = (omega arith, omega arith);
        pickups = each_fewer (PickupRight o b.walls) MOST_PICKUPS (λ before p r. ltb-true _ _ r.room) b.pickups h.pickups;
        free = all_free _ b.pickups b.players (pickups_free o b.walls b.pickups open_is within h.pickups) (homes_free o b.walls b.pickups b.players open_is within h.players);
        apart = cells_apart o b.walls b.pickups b.players (pickups_apart o b.walls b.pickups h.pickups) h.players;
      };
      player_count = omega arith;
      players = named ∙ sym homed;
      names = all_map (λ n. is_name n ≡ true) (λ p. p.name) b.players (each_of (PlayerRight o b.walls b.pickups) _ (λ before p r. r.tests.0) [] b.players h.players);
      named_apart = names_apart o b.walls b.pickups b.players h.players;
      command_count = each_fewer (CommandRight o b.players) (most_commands o.version) (λ before c r. ltb-true _ _ r.room) b.commands h.commands;
      commands = each_of (CommandRight o b.players) _ (λ before c r.
          let time = r.fits.0.1 in
          let from = r.fits.1.0.1 in
          let player = ltb-true _ _ r.tests.0 in
          let ticks = is.length.fits.0 in
          let mirrors = is.mirrors.fits.0 in
          record { time = omega arith; from = omega arith; number = r.fits.1.1.0.1; player = omega arith; act = r.fits.1.1.1.1 }) [] b.commands h.commands;
      commands_differ = commands_apart o b.players b.commands h.commands;
      script_count = each_fewer (ScriptRight o b.plans b.commands) MOST_SCRIPT_LINES (script_room o b.plans b.commands) b.script h.script;
      script = each_of (ScriptRight o b.plans b.commands) _ (script_right o b is.mirrors.fits.0 copies) [] b.script h.script;
      shown = each_keeps (ScriptRight o b.plans b.commands) (λ before. count_by shows before ≤ MOST_SHOWING_LINES)
          (λ before x le r. rw (count_push before x) (script_shown o b.plans b.commands before x le r)) [] b.script
          (lit≤ tt) h.script;
    }
