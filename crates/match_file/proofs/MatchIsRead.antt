-- A match is read from what its text says.
use Rattle.std.proofs.Common.{◌≡◌, ℕ, ◌+◌, ◌-◌, ◌<◌, ◌≤◌, Bool, true, false, cond, eqb, ltb, ◌&&◌, List, [], ◌∷◌, ◌++◌, length, map, filter, refl, sym, ap}
use Rattle.std.proofs.Common.{subst, ◌∙◌, length-append, append_assoc, arith}
use Rattle.std.specs.Prelude.{bytes_eq, not, decimal, nat_le, count_by}
use Rattle.std.specs.List.{AllByRecursion, list_any, list_all}
use Rattle.std.proofs.lemmas.Bool.{ltb-true, lt-ltb, le-leb, and_parts, or_parts}
use Rattle.std.proofs.lemmas.List.{length-map, map-append}
use Rattle.std.proofs.lemmas.List.Sums.{length-filter}
use Rattle.game_trait.specs.declared.command.Command.{Command}
use Rattle.game_trait.specs.declared.limits.TheConstants.{MOST_COPIES, LONGEST_DELAY, MOST_PICKUPS, MOST_PLAYERS, MOST_PLAYERS_IN_1, MOST_SCRIPT_LINES, MOST_SHOWING_LINES}
use Rattle.game_trait.specs.CommandList.{has_command}
use Rattle.game_trait.specs.Keys.{same_name, NamesDiffer}
use Rattle.game_trait.proofs.KeyOrder.{same_name-sym}
use Rattle.match_setup.specs.declared.pickup.PickupSpot.{PickupSpot}
use Rattle.match_setup.specs.declared.spot.Spot.{Spot}
use Rattle.match_setup.specs.Ground.{open_grid, is_walled, is_open}
use Rattle.match_setup.specs.Setup.{same_cell, spot_cell, pickup_cell}
use Rattle.command_lines.specs.CommandLine.{last_player}
use Rattle.sync_model.specs.Schedule.{DelaysRise}
use Rattle.std.proofs.lemmas.Bool.Decides.{nat_tests}
use Rattle.sync_model.specs.Lists.{last_of}
use Rattle.tss_io.specs.Forms.{InRange, is_word, is_word_byte}
use Rattle.tss_io.proofs.EachLaws.{each_split}
use Rattle.tss_base.proofs.ListLaws.{all_at, all_unmap, all_to, distinct_at, any_map, any_append, list_all_of, of_list_all}
use Rattle.match_file.specs.declared.body.Body.{Body}
use Rattle.match_file.specs.declared.body.Stage.TheVariants.{Ended}
use Rattle.match_file.specs.declared.cell.Cell.{Cell}
use Rattle.match_file.specs.declared.opening.Opening.{Opening}
use Rattle.match_file.specs.declared.player.Player.{Player}
use Rattle.match_data.specs.declared.script_line.ScriptLine.{ScriptLine}
use Rattle.match_data.specs.declared.script_line.ScriptLine.TheVariants.{Tick, Turn, Arrive, Step, World, Run, Restagger}
use Rattle.match_data.specs.Data.{MatchData, most_players, most_commands, IsCommand, IsScriptLine, shows, IsMatch}
use Rattle.match_data.specs.Names.{is_letter, is_name_byte, is_name}
use Rattle.match_file.specs.Kinds.{is_none, in_grid, has_wall, has_pickup, has_home, has_name, rises, rises_from, greatest}
use Rattle.match_file.specs.Reading.{walled, match_of}
use Rattle.match_file.specs.Sections.{PlanRight, WallRight, PickupRight, PlayerRight, CommandRight, ScriptRight, IsOpening, IsRead}
use Rattle.match_file.specs.Text.{walls_of}
use Rattle.match_file.proofs.WallLaws.{place, InGrid, rising_behind, walls_in_grid, in_columns, grid_has, grid_again, walls_rise}
use Rattle.std.proofs.lemmas.List.Elements.{filter-append}
use Rattle.game_trait.proofs.Lists.{all-first, all-second}

-- ---- the parts of a match, as they are read

-- a player for each name and home
unfoldable pub players_of : List (List ℕ) → List Spot → List Player
players_of [] homes = []
players_of (name ∷ names) [] = []
players_of (name ∷ names) (home ∷ homes) = record { name = name; home = home } ∷ players_of names homes

abbrev pub opening_of : MatchData → Opening
opening_of m = record { version = m.version; length = m.length; width = m.layout.grid.width; height = m.layout.grid.height; mirrors = m.mirrors; delays = m.delays; pace = m.pace }

abbrev pub body_of : MatchData → Body
body_of m = record {
  stage = Ended;
  plans = m.plans;
  walls = walls_of m.layout.grid m.layout.grid.width m.layout.grid.height;
  pickups = m.layout.pickups;
  players = players_of m.names m.layout.players;
  commands = m.commands;
  script = m.script;
}

pub names_of : (names : List (List ℕ)) (homes : List Spot) → length names ≡ length homes → map (λ p. p.name) (players_of names homes) ≡ names
unfolding players_of
names_of [] homes e = refl
names_of (name ∷ names) [] e = absurd (omega arith)
names_of (name ∷ names) (home ∷ homes) e = ap (λ (ns : List (List ℕ)). name ∷ ns) (names_of names homes (omega (arith, e)))

pub homes_of : (names : List (List ℕ)) (homes : List Spot) → length names ≡ length homes → map (λ p. p.home) (players_of names homes) ≡ homes
unfolding players_of
homes_of [] [] e = refl
homes_of [] (home ∷ homes) e = absurd (omega arith)
homes_of (name ∷ names) [] e = absurd (omega arith)
homes_of (name ∷ names) (home ∷ homes) e = ap (λ (hs : List Spot). home ∷ hs) (homes_of names homes (omega (arith, e)))

-- ---- delays

rises_of : (d : ℕ) (ds : List ℕ) → AllByRecursion (λ e. d < e) ds → DelaysRise ds → rises_from d ds ≡ true
unfolding DelaysRise
rises_of d [] above h = refl
rises_of d (e ∷ ds) above h = let t : ltb d e ≡ true = lt-ltb _ _ above.0 in rw (t, rises_of e ds h.0 h.1) refl

rising : (ds : List ℕ) → DelaysRise ds → rises ds ≡ true
unfolding DelaysRise
rising [] h = refl
rising (d ∷ ds) h = rises_of d ds h.0 h.1

in_range : (ds : List ℕ) → AllByRecursion (λ d. d ≤ LONGEST_DELAY) ds → AllByRecursion (InRange 0 LONGEST_DELAY) ds
in_range ds h = all_to (λ d. d ≤ LONGEST_DELAY) (InRange 0 LONGEST_DELAY) (λ d le. (omega arith, le)) ds h

-- ---- each item behind those before it

-- fewer stand before an item than there are
front_fewer : {A : Type 0} (xs front : List A) (a : A) (more : List A) (n : ℕ) → xs ≡ front ++ a ∷ more → length xs ≤ n → length front < n
front_fewer xs front a more n e le = omega (arith, ap length e, length-append front (a ∷ more))

plan_right : (m : MatchData) → IsMatch m → (front : List (List ℕ)) (plan : List ℕ) (more : List (List ℕ)) → m.plans ≡ front ++ plan ∷ more → PlanRight (opening_of m) front plan
plan_right m is front plan more e =
    let one = all_at _ front plan more (rw e at is.plans) in
    let few = is.plan_count in
    record {
      stands = refl;
      fits = (record { each = in_range plan one.0.short_delays; some = one.0.some_copy }, one.1);
      room = lt-ltb _ _ (front_fewer m.plans front plan more 7 e (omega arith));
      tests = (rising plan one.0.delays_rise, tt);
    }

inside : (o : Opening) (x y : ℕ) → x < o.width → y < o.height → in_grid o x y ≡ true
inside o x y left low = let s : ltb x o.width ≡ true = lt-ltb _ _ left in let t : ltb y o.height ≡ true = lt-ltb _ _ low in rw (s, t) refl

wall_right : (m : MatchData) → IsMatch m → (front : List Cell) (c : Cell) (more : List Cell)
    → walls_of m.layout.grid m.layout.grid.width m.layout.grid.height ≡ front ++ c ∷ more
    → WallRight (opening_of m) front c
wall_right m is front c more e =
    let g = m.layout.grid in
    let sound = is.layout.grid in
    let within : InGrid g.width g.height (front ++ c ∷ more) = rw e at (walls_in_grid g sound) in
    let here = all_at _ front c more within in
    let x = here.0 in
    let y = here.1 in
    let wide = sound.width.1 in
    let high = sound.height.1 in
    let rise : DelaysRise (map place (front ++ c ∷ more)) = rw e at (walls_rise g g.width g.height sound.width.1).rise in
    record {
      stands = refl;
      fits = ((omega arith, omega arith), (omega arith, omega arith));
      room = refl;
      tests = (inside (opening_of m) c.x c.y x y, (rising_behind front c more (in_columns g.width g.height _ wide within) rise, tt));
    }

no : (b : Bool) → b ≡ false → not b ≡ true
no true h = absurd cc
no false h = refl

-- an open cell is in the grid, and no wall is there
open_cell : (m : MatchData) (x y : ℕ) → IsMatch m → is_open m.layout.grid x y ≡ true
    → (in_grid (opening_of m) x y ≡ true) × (not (has_wall x y
    (walls_of m.layout.grid m.layout.grid.width m.layout.grid.height)) ≡ true)
unfolding is_open
open_cell m x y is h =
    let g = m.layout.grid in
    let a = and_parts (ltb x g.width) _ h in
    let b = and_parts (ltb y g.height) (not (is_walled g x y)) a.1 in
    (rw (a.0, b.0) refl, rw (grid_has g x y is.layout.grid) b.1)

small_cell : (m : MatchData) (x y : ℕ) → IsMatch m → in_grid (opening_of m) x y ≡ true → InRange 0 greatest x × InRange 0 greatest y
small_cell m x y is h =
    let parts = and_parts (ltb x m.layout.grid.width) (ltb y m.layout.grid.height) h in
    let left = ltb-true _ _ parts.0 in
    let low = ltb-true _ _ parts.1 in
    let wide = is.layout.grid.width.1 in
    let high = is.layout.grid.height.1 in
    ((omega arith, omega arith), (omega arith, omega arith))

free_pickup : (m : MatchData) → IsMatch m → (front : List PickupSpot) (p : PickupSpot) (more : List PickupSpot) → m.layout.pickups ≡ front ++ p ∷ more → is_open m.layout.grid p.x p.y ≡ true
free_pickup m is front p more e =
    let all = all-first (λ c. is_open m.layout.grid c.x c.y ≡ true) (map pickup_cell m.layout.pickups)
    (map spot_cell m.layout.players) (of_list_all (λ c. is_open m.layout.grid c.x c.y) _ is.layout.free) in
    all_at (λ p. is_open m.layout.grid p.x p.y ≡ true) front p more (rw e at (all_unmap (λ c. is_open m.layout.grid c.x c.y ≡ true) pickup_cell m.layout.pickups all))

free_home : (m : MatchData) → IsMatch m → (front : List Spot) (s : Spot) (more : List Spot) → m.layout.players ≡ front ++ s ∷ more → is_open m.layout.grid s.x s.y ≡ true
free_home m is front s more e =
    let all = all-second (λ c. is_open m.layout.grid c.x c.y ≡ true) (map pickup_cell m.layout.pickups)
    (map spot_cell m.layout.players) (of_list_all (λ c. is_open m.layout.grid c.x c.y) _ is.layout.free) in
    all_at (λ s. is_open m.layout.grid s.x s.y ≡ true) front s more (rw e at (all_unmap (λ c. is_open m.layout.grid c.x c.y ≡ true) spot_cell m.layout.players all))

apart_pickup : (m : MatchData) → IsMatch m → (front : List PickupSpot) (p : PickupSpot) (more : List PickupSpot) → m.layout.pickups ≡ front ++ p ∷ more → has_pickup p.x p.y front ≡ false
unfolding has_pickup
apart_pickup m is front p more e =
    let cells : map pickup_cell m.layout.pickups ++ map spot_cell m.layout.players ≡ map pickup_cell front ++ pickup_cell p ∷ (map pickup_cell more ++ map spot_cell m.layout.players) =
    rw (e, map-append pickup_cell front (p ∷ more)) (append_assoc (map pickup_cell front) (pickup_cell p ∷ map pickup_cell more) (map spot_cell m.layout.players)) in
    sym (any_map (λ c. same_cell c (pickup_cell p)) pickup_cell front) ∙ distinct_at same_cell (map pickup_cell front) (pickup_cell p) _ (rw cells at is.layout.apart)

pickup_right : (m : MatchData) → IsMatch m → (front : List PickupSpot) (p : PickupSpot) (more : List PickupSpot) → m.layout.pickups ≡ front ++ p ∷ more
    → PickupRight (opening_of m) (walls_of m.layout.grid m.layout.grid.width m.layout.grid.height) front p
pickup_right m is front p more e =
    let free = open_cell m p.x p.y is (free_pickup m is front p more e) in
    let range = small_cell m p.x p.y is free.0 in
    record {
      stands = refl;
      fits = (range.0, (range.1, tt));
      room = lt-ltb _ _ (front_fewer m.layout.pickups front p more MOST_PICKUPS e is.layout.pickups);
      tests = (free.0, (free.1, (no _ (apart_pickup m is front p more e), tt)));
    }

-- ---- players

apart_home : (m : MatchData) → IsMatch m → (front : List Player) (p : Player) (more : List Player) → m.layout.players ≡ map (λ p. p.home) front ++ p.home ∷ map (λ p. p.home) more
    → (has_pickup p.home.x p.home.y m.layout.pickups ≡ false) × (has_home p.home.x p.home.y front ≡ false)
unfolding has_pickup has_home
apart_home m is front p more e =
    let cells : map pickup_cell m.layout.pickups ++ map spot_cell m.layout.players
    ≡ (map pickup_cell m.layout.pickups ++ map spot_cell (map (λ p. p.home) front)) ++ spot_cell p.home
    ∷ map spot_cell (map (λ p. p.home) more) =
    rw (e, map-append spot_cell (map (λ p. p.home) front) (p.home ∷ map (λ p. p.home) more)) (sym (append_assoc (map pickup_cell m.layout.pickups) (map spot_cell (map (λ p. p.home) front)) _)) in
    let none : list_any (λ c. same_cell c (spot_cell p.home))
    (map pickup_cell m.layout.pickups ++ map spot_cell (map (λ p. p.home) front))
    ≡ false = distinct_at same_cell _ (spot_cell p.home) _ (rw cells at is.layout.apart) in
    let parts = or_parts (list_any (λ c. same_cell c (spot_cell p.home)) (map pickup_cell m.layout.pickups))
    (list_any (λ c. same_cell c (spot_cell p.home)) (map spot_cell (map (λ p. p.home) front)))
    (sym (any_append _ (map pickup_cell m.layout.pickups) _) ∙ none) in (
      sym (any_map (λ c. same_cell c (spot_cell p.home)) pickup_cell m.layout.pickups) ∙ parts.0,
      sym (any_map (λ s. same_cell (spot_cell s) (spot_cell p.home)) (λ p. p.home) front) ∙ sym (any_map (λ c. same_cell c (spot_cell p.home)) spot_cell (map (λ p. p.home) front)) ∙ parts.1,
    )

apart_name : (m : MatchData) → IsMatch m → (front : List Player) (p : Player) (more : List Player) → m.names
    ≡ map (λ p. p.name) front ++ p.name ∷ map (λ p. p.name) more → has_name p.name front ≡ false
unfolding has_name
apart_name m is front p more e = sym (any_map (λ n. bytes_eq n p.name) (λ p. p.name) front) ∙ distinct_at bytes_eq (map (λ p. p.name) front) p.name _ (rw e at is.named_apart)

letter_fits : (b : ℕ) → is_letter b ≡ true → is_word_byte b ≡ true
letter_fits b h = grind (arith, nat_tests)

name_byte_fits : (b : ℕ) → is_name_byte b ≡ true → is_word_byte b ≡ true
name_byte_fits b h = grind (arith, nat_tests)

word_of : (word : List ℕ) → 0 < length word → list_all is_word_byte word ≡ true → is_word word ≡ true
unfolding is_word
word_of word some h = let t : ltb 0 (length word) ≡ true = lt-ltb _ _ some in rw (t, h) refl

name_is_word : (name : List ℕ) → is_name name ≡ true → is_word name ≡ true
unfolding is_name is_word
name_is_word [] h = absurd cc
name_is_word (b ∷ bytes) h =
    let first = and_parts (is_letter b) _ h in
    let rest = and_parts (nat_le (length bytes) 11) (list_all is_name_byte bytes) first.1 in
    word_of (b ∷ bytes) (omega arith) (list_all_of _ (b ∷ bytes) (
      letter_fits b first.0,
      all_to (λ c. is_name_byte c ≡ true) _ (λ c k. name_byte_fits c k) bytes
          (of_list_all is_name_byte bytes rest.1),
    ))

player_right : (m : MatchData) → IsMatch m → (front : List Player) (p : Player) (more : List Player) → players_of m.names m.layout.players ≡ front ++ p ∷ more
    → PlayerRight (opening_of m) (walls_of m.layout.grid m.layout.grid.width m.layout.grid.height) m.layout.pickups front p
player_right m is front p more e =
    let names : m.names ≡ map (λ p. p.name) front ++ p.name
    ∷ map (λ p. p.name) more = sym (names_of m.names m.layout.players is.players)
    ∙ ap (λ (ps : List Player). map (λ p. p.name) ps) e ∙ map-append (λ p. p.name) front (p ∷ more) in
    let homes : m.layout.players ≡ map (λ p. p.home) front ++ p.home
    ∷ map (λ p. p.home) more = sym (homes_of m.names m.layout.players is.players)
    ∙ ap (λ (ps : List Player). map (λ p. p.home) ps) e ∙ map-append (λ p. p.home) front (p ∷ more) in
    let free = open_cell m p.home.x p.home.y is (free_home m is (map (λ p. p.home) front) p.home (map (λ p. p.home) more) homes) in
    let range = small_cell m p.home.x p.home.y is free.0 in
    let apart = apart_home m is front p more homes in
    let name = all_at (λ n. is_name n ≡ true) (map (λ p. p.name) front) p.name (map (λ p. p.name) more) (rw names at is.names) in
    record {
      stands = refl;
      fits = (name_is_word p.name name, (range.0, (range.1, tt)));
      room = lt-ltb _ _ (subst (λ (k : ℕ). k < most_players m.version) (length-map front (λ p. p.name))
          (front_fewer m.names (map (λ p. p.name) front) p.name (map (λ p. p.name) more) (most_players m.version)
          names is.player_count));
      tests = (name, (no _ (apart_name m is front p more names), (free.0, (free.1, (no _ apart.0, (no _ apart.1, tt))))));
    }

-- ---- commands

differ_at : (front : List Command) (c : Command) (more : List Command) → NamesDiffer (front ++ c ∷ more) → has_command front c.from c.number ≡ false
unfolding NamesDiffer same_name
differ_at [] c more h = refl
differ_at (x ∷ front) c more h =
    let one = all_at (λ y. same_name x y ≡ false) front c more h.0 in
    rw (same_name-sym x c one, differ_at front c more h.1) refl

not_none : {A : Type 0} (xs : List A) → 1 ≤ length xs → not (is_none xs) ≡ true
not_none [] h = absurd (omega arith)
not_none (x ∷ xs) h = refl

players_count : (m : MatchData) → IsMatch m → length (players_of m.names m.layout.players) ≡ length m.names
players_count m is = sym (length-map (players_of m.names m.layout.players) (λ p. p.name)) ∙ ap length (names_of m.names m.layout.players is.players)

player_fits : (version player count : ℕ) → player < count → count ≤ most_players version → player ≤ last_player version
player_fits version player count less most = elim (eqb version 1) as
    (λ t. count ≤ cond t MOST_PLAYERS_IN_1 MOST_PLAYERS → player ≤ cond t (MOST_PLAYERS_IN_1 - 1) (MOST_PLAYERS - 1))
    [ true ↦ λ le. omega arith | false ↦ λ le. omega arith ] most

command_right : (m : MatchData) → IsMatch m → (front : List Command) (c : Command) (more : List Command) → m.commands
    ≡ front ++ c ∷ more → CommandRight (opening_of m) (players_of m.names m.layout.players) front c
command_right m is front c more e =
    let one = all_at (IsCommand m) front c more (subst (λ (xs : List Command). AllByRecursion (IsCommand m) xs) e is.commands) in
    let time = one.time in
    let from = one.from in
    let player = one.player in
    let count = players_count m is in
    let some = is.layout.players.0 in
    let same = is.players in
    record {
      stands = not_none (players_of m.names m.layout.players) (omega arith);
      fits = ((omega arith, omega arith), ((omega arith, omega arith), ((omega arith, one.number), ((omega arith, player_fits m.version c.player (length m.names) player is.player_count), one.act))));
      room = lt-ltb _ _ (front_fewer m.commands front c more (most_commands m.version) e is.command_count);
      tests = (lt-ltb _ _ (omega arith), (no _ (differ_at front c more (rw e at is.commands_differ)), tt));
    }

-- ---- the script

room_of : (m : MatchData) → IsMatch m → (front : List ScriptLine) (x : ScriptLine) (more : List ScriptLine) → m.script ≡ front ++ x ∷ more → ltb (length front) MOST_SCRIPT_LINES ≡ true
room_of m is front x more e = lt-ltb _ _ (front_fewer m.script front x more MOST_SCRIPT_LINES e is.script_count)

one_of : (x : ScriptLine) (more : List ScriptLine) → cond (shows x) 1 0 ≤ length (filter shows (x ∷ more))
one_of x more = elim (shows x) as (λ t. cond t 1 0 ≤ length (cond {A = List ScriptLine} t (x ∷ filter shows more) (filter shows more))) [ true ↦ omega arith | false ↦ omega arith ]

count_front : (front : List ScriptLine) (x : ScriptLine) (more : List ScriptLine) → count_by shows front + cond (shows x) 1 0 ≤ count_by shows (front ++ x ∷ more)
count_front front x more =
    let whole : count_by shows (front ++ x ∷ more) ≡ length (filter shows front)
    + length (filter shows (x ∷ more)) = sym (length-filter shows (front ++ x ∷ more))
    ∙ ap length (filter-append shows front (x ∷ more))
    ∙ length-append (filter shows front) (filter shows (x ∷ more)) in
    let kept = one_of x more in
    omega (arith, whole, length-filter shows front, kept)

showing_room : (m : MatchData) → IsMatch m → (front : List ScriptLine) (x : ScriptLine) (more : List ScriptLine)
    → m.script ≡ front ++ x ∷ more → shows x ≡ true
    → (ltb (length front) MOST_SCRIPT_LINES && ltb (count_by shows front) MOST_SHOWING_LINES) ≡ true
showing_room m is front x more e show =
    let kept : count_by shows front + cond (shows x) 1 0 ≤ count_by shows m.script = rw e (count_front front x more) in
    let one : cond {A = ℕ} (shows x) 1 0 ≡ 1 = rw show refl in
    let most = is.shown in
    let few : ltb (count_by shows front) MOST_SHOWING_LINES ≡ true = lt-ltb _ _ (omega arith) in
    rw (room_of m is front x more e, few) refl

script_one : (m : MatchData) → IsMatch m → (front : List ScriptLine) (x : ScriptLine) (more : List ScriptLine)
    → m.script ≡ front ++ x ∷ more → IsScriptLine m x → ScriptRight (opening_of m) m.plans m.commands front x
script_one m is front (Tick k) more e h = record { stands = refl; fits = (omega arith, omega arith); room = room_of m is front (Tick k) more e; tests = tt }
script_one m is front (Turn k) more e h = record { stands = refl; fits = (omega arith, omega arith); room = room_of m is front (Turn k) more e; tests = tt }
script_one m is front (Arrive k f n) more e h =
    let mirror = h.0 in let from = h.1 in
    record { stands = refl; fits = ((omega arith, omega arith), ((omega arith, omega arith), (omega arith, h.2))); room = room_of m is front (Arrive k f n) more e; tests = (h.3, tt) }
script_one m is front (Step k c) more e h = let mirror = h.0 in
    let copy = h.1 in record {
      stands = refl;
      fits = ((omega arith, omega arith), (omega arith, omega arith));
      room = room_of m is front (Step k c) more e;
      tests = tt;
    }
script_one m is front (World k c) more e h = let mirror = h.0 in
    let copy = h.1 in record {
      stands = refl;
      fits = ((omega arith, omega arith), (omega arith, omega arith));
      room = showing_room m is front (World k c) more e refl;
      tests = tt;
    }
script_one m is front (Run k c) more e h = let mirror = h.0 in
    let copy = h.1 in record {
      stands = refl;
      fits = ((omega arith, omega arith), (omega arith, omega arith));
      room = showing_room m is front (Run k c) more e refl;
      tests = tt;
    }
script_one m is front (Restagger k p) more e h =
    let mirror = h.0 in let plan = h.1 in let few = is.plan_count in
    record { stands = refl; fits = ((omega arith, omega arith), (omega arith, omega arith)); room = room_of m is front (Restagger k p) more e; tests = (le-leb _ _ plan, tt) }

script_each : (m : MatchData) → IsMatch m → (front : List ScriptLine) (x : ScriptLine) (more : List ScriptLine) → m.script ≡ front ++ x ∷ more → ScriptRight (opening_of m) m.plans m.commands front x
script_each m is front x more e = script_one m is front x more e (all_at (IsScriptLine m) front x more (subst (λ (xs : List ScriptLine). AllByRecursion (IsScriptLine m) xs) e is.script))

-- ---- the whole

some_is_not : {A : Type 0} (xs : List A) → 1 ≤ length xs → is_none xs ≡ false
some_is_not [] h = absurd (omega arith)
some_is_not (x ∷ xs) h = refl

last_small : (k d : ℕ) (ds : List ℕ) → d ≤ k → AllByRecursion (λ e. e ≤ k) ds → last_of d ds ≤ k
unfolding last_of
last_small k d [] le h = le
last_small k d (e ∷ ds) le h = last_small k e ds h.0 h.1

pace_small : (m : MatchData) → IsMatch m → m.pace ≤ LONGEST_DELAY
pace_small m is = let p = is.pace in let l = last_small LONGEST_DELAY 0 m.delays (omega arith) is.delays.short_delays in omega arith

opening_is : (m : MatchData) → IsMatch m → IsOpening (opening_of m)
opening_is m is =
    let grid = is.layout.grid in
    let d = is.delays in
    record {
      version = is.version;
      length = record { stands = refl; fits = is.ticks; room = refl; tests = tt };
      grid = record { stands = refl; fits = (grid.width, grid.height); room = refl; tests = tt };
      mirrors = record { stands = refl; fits = is.mirrors; room = refl; tests = tt };
      delays = record {
        stands = refl;
        fits = record { each = in_range m.delays d.short_delays; some = d.some_copy };
        room = le-leb _ _ (subst (λ (k : ℕ). k ≤ MOST_COPIES) (sym (length-map m.delays decimal)) d.few_copies);
        tests = (rising m.delays d.delays_rise, tt);
      };
      pace = record { stands = refl; fits = (omega arith, pace_small m is); room = refl; tests = (le-leb _ _ is.pace, tt) };
    }

pub is_read : (m : MatchData) → IsMatch m → IsRead (opening_of m) (body_of m)
is_read m is = record {
  opening = opening_is m is;
  body = record {
    plans = each_split _ [] m.plans (plan_right m is);
    walls = each_split _ [] (walls_of m.layout.grid m.layout.grid.width m.layout.grid.height) (wall_right m is);
    pickups = each_split _ [] m.layout.pickups (pickup_right m is);
    players = each_split _ [] (players_of m.names m.layout.players) (player_right m is);
    commands = each_split _ [] m.commands (command_right m is);
    script = each_split _ [] m.script (script_each m is);
    closed = λ h. absurd cc;
    begun = λ _. some_is_not (players_of m.names m.layout.players) (let some = is.layout.players.0 in let same = is.players in let count = players_count m is in omega arith);
  };
  ended = refl;
}

-- the match that is read from its parts is the match
pub match_is : (m : MatchData) → IsMatch m → match_of (opening_of m) (body_of m) ≡ m
match_is m is =
    let grid : walled (open_grid m.layout.grid.width m.layout.grid.height)
    (walls_of m.layout.grid m.layout.grid.width m.layout.grid.height)
    ≡ m.layout.grid = grid_again m.layout.grid is.layout.grid in
    let names = names_of m.names m.layout.players is.players in
    let homes = homes_of m.names m.layout.players is.players in
    λ i. record m { layout = record { grid = grid i; pickups = m.layout.pickups; players = homes i }; names = names i }
