-- What is printed of a match is its text.
use Rattle.std.proofs.Common.{◌≡◌, ℕ, zero, suc, ◌+◌, ◌<◌, Bool, true, false, eqb, ltb, List, [], ◌∷◌, ◌++◌, length, map, take, refl, sym, ap, ◌∙◌, get_or, arith}
use Rattle.std.specs.Prelude.{codes, not, slice_get, unwrap_or}
use Rattle.std.proofs.lemmas.Bool.{lt-ltb, and_parts, not-true}
use Rattle.std.proofs.lemmas.Bool.Decides.{nat_tests}
use Rattle.std.proofs.lemmas.List.{map-append}
use Rattle.match_setup.specs.declared.spot.Spot.{Spot}
use Rattle.match_setup.specs.Ground.{Grid, is_walled, is_open}
use Rattle.command_lines.specs.CommandLine.{command_line}
use Rattle.tss_io.specs.Lines.{as_line, lines_text}
use Rattle.tss_io.proofs.Printing.{lines_none, puts, puts_one}
use Rattle.match_data.specs.declared.script_line.ScriptLine.{ScriptLine}
use Rattle.match_data.specs.Data.{MatchData}
use Rattle.match_file.specs.Text.{head_line, number_line, grid_line, delays_line, wall_line, wall_at, walls_in_row, walls_of, plan_line, pickup_line}
use Rattle.match_file.specs.Text.{player_line, player_lines, script_line, script_lines, opening_lines, match_lines, match_text}

-- ---- walls

is_it : (b : Bool) → not b ≡ false → b ≡ true
is_it true h = refl
is_it false h = absurd cc

open_parts : (g : Grid) (x y : ℕ) (b : Bool) → b ≡ is_open g x y → b ≡ true → is_walled g x y ≡ false
unfolding is_open
open_parts g x y b e h =
    let parts = and_parts (ltb y g.height) (not (is_walled g x y)) (and_parts (ltb x g.width) _ (sym e ∙ h)).1 in
    not-true (is_walled g x y) parts.1

pub open_bare : (g : Grid) (x y : ℕ) → is_open g x y ≡ true → is_walled g x y ≡ false
open_bare g x y h = open_parts g x y (is_open g x y) refl h

pub shut_walled : (g : Grid) (x y : ℕ) → x < g.width → y < g.height → is_open g x y ≡ false → is_walled g x y ≡ true
unfolding is_open
shut_walled g x y column row h =
    let s : ltb x g.width ≡ true = lt-ltb _ _ column in
    let t : ltb y g.height ≡ true = lt-ltb _ _ row in
    is_it (is_walled g x y) (rw (s, t) at h)

pub wall_none : (g : Grid) (x y : ℕ) (old : List ℕ) → is_walled g x y ≡ false → old ≡ old ++ lines_text (map wall_line (wall_at g x y))
wall_none g x y old h = rw h (lines_none old)

pub wall_one : (g : Grid) (x y : ℕ) (old new : List ℕ) → is_walled g x y ≡ true → new ≡ old ++ as_line (wall_line (record { x = x; y = y })) → new ≡ old ++ lines_text (map wall_line (wall_at g x y))
wall_one g x y old new h e = rw h (puts_one (wall_line (record { x = x; y = y })) old new e)

pub row_next : (g : Grid) (y x : ℕ) (old mid new : List ℕ) → mid ≡ old
    ++ lines_text (map wall_line (walls_in_row g y x)) → new ≡ mid ++ lines_text (map wall_line (wall_at g x y)) → new
    ≡ old ++ lines_text (map wall_line (walls_in_row g y (x + 1)))
unfolding walls_in_row
row_next g y x old mid new so_far next =
    let e : x + 1 ≡ suc x = omega arith in
    rw (e, map-append wall_line (walls_in_row g y x) (wall_at g x y)) (puts (map wall_line (walls_in_row g y x)) (map wall_line (wall_at g x y)) old mid new so_far next)

pub walls_next : (g : Grid) (width y : ℕ) (old mid new : List ℕ) → mid ≡ old
    ++ lines_text (map wall_line (walls_of g width y)) → new ≡ mid
    ++ lines_text (map wall_line (walls_in_row g y width)) → new ≡ old
    ++ lines_text (map wall_line (walls_of g width (y + 1)))
unfolding walls_of
walls_next g width y old mid new so_far next =
    let e : y + 1 ≡ suc y = omega arith in
    rw (e, map-append wall_line (walls_of g width y) (walls_in_row g y width)) (puts (map wall_line (walls_of g width y)) (map wall_line (walls_in_row g y width)) old mid new so_far next)

pub row_none : (g : Grid) (y : ℕ) (old : List ℕ) → old ≡ old ++ lines_text (map wall_line (walls_in_row g y 0))
unfolding walls_in_row
row_none g y old = lines_none old

pub walls_none : (g : Grid) (width : ℕ) (old : List ℕ) → old ≡ old ++ lines_text (map wall_line (walls_of g width 0))
unfolding walls_of
walls_none g width old = lines_none old

-- ---- players

players_push : (names : List (List ℕ)) (homes : List Spot) (i : ℕ) (d : Spot) → i < length homes → length names ≡ length homes
    → player_lines (take (suc i) names) (take (suc i) homes) ≡ player_lines (take i names) (take i homes) ++ player_line (unwrap_or (slice_get names i) []) (get_or homes i d) ∷ []
unfolding player_lines
players_push [] homes i d within same = absurd (omega arith)
players_push (n ∷ names) [] i d within same = absurd (omega arith)
players_push (n ∷ names) (h ∷ homes) zero d within same = refl
players_push (n ∷ names) (h ∷ homes) (suc i) d within same = ap (λ (ls : List (List ℕ)). player_line n h ∷ ls) (players_push names homes i d (omega (arith, within)) (omega (arith, same)))

pub players_next : (names : List (List ℕ)) (homes : List Spot) (i : ℕ) (d : Spot) (old mid new : List ℕ)
    → i < length homes → length names ≡ length homes → mid ≡ old
    ++ lines_text (player_lines (take i names) (take i homes)) → new ≡ mid
    ++ as_line (player_line (unwrap_or (slice_get names i) []) (get_or homes i d))
    → new ≡ old ++ lines_text (player_lines (take (i + 1) names) (take (i + 1) homes))
players_next names homes i d old mid new within same so_far next =
    let e : i + 1 ≡ suc i = omega arith in
    rw (e, players_push names homes i d within same) (puts (player_lines (take i names) (take i homes))
    (player_line (unwrap_or (slice_get names i) []) (get_or homes i d) ∷ []) old mid new so_far
    (puts_one _ mid new next))

pub players_none : (names : List (List ℕ)) (homes : List Spot) (old : List ℕ) → old ≡ old ++ lines_text (player_lines (take 0 names) (take 0 homes))
unfolding player_lines
players_none names homes old = lines_none old

-- ---- the script

pub script_some : (script : List ScriptLine) → eqb (length script) 0 ≡ false → script_lines script ≡ codes "script" ∷ map script_line script
script_some [] h = absurd (grind (arith, nat_tests))
script_some (s ∷ script) h = refl

pub script_none : (script : List ScriptLine) (old : List ℕ) → eqb (length script) 0 ≡ true → old ≡ old ++ lines_text (script_lines script)
script_none [] old h = lines_none old
script_none (s ∷ script) old h = absurd (grind (arith, nat_tests))

-- ---- the opening

pub opening_puts : (m : MatchData) (old a b c d e f : List ℕ) → a ≡ old ++ as_line (head_line m.version) → b ≡ a
    ++ as_line (number_line (codes "length") m.length) → c ≡ b
    ++ as_line (grid_line m.layout.grid.width m.layout.grid.height)
    → d ≡ c ++ as_line (number_line (codes "mirrors") m.mirrors) → e ≡ d ++ as_line (delays_line m.delays) → f ≡ e
    ++ as_line (number_line (codes "pace") m.pace) → f ≡ old ++ lines_text (opening_lines m)
opening_puts m old a b c d e f ea eb ec ed ee ef =
    puts (head_line m.version ∷ []) _ old a f (puts_one _ old a ea)
    (puts (number_line (codes "length") m.length ∷ []) _ a b f (puts_one _ a b eb)
    (puts (grid_line m.layout.grid.width m.layout.grid.height ∷ []) _ b c f (puts_one _ b c ec)
    (puts (number_line (codes "mirrors") m.mirrors ∷ []) _ c d f (puts_one _ c d ed)
    (puts (delays_line m.delays ∷ []) (number_line (codes "pace") m.pace ∷ []) d e f (puts_one _ d e ee) (puts_one _ e f ef)))))

-- ---- the whole

pub match_puts : (m : MatchData) (a b c d e f g new : List ℕ) → a ≡ lines_text (opening_lines m) → b ≡ a
    ++ lines_text (map plan_line m.plans) → c ≡ b
    ++ lines_text (map wall_line (walls_of m.layout.grid m.layout.grid.width m.layout.grid.height)) → d ≡ c
    ++ lines_text (map pickup_line m.layout.pickups)
    → e ≡ d ++ lines_text (player_lines m.names m.layout.players) → f ≡ e ++ lines_text (map command_line m.commands)
    → g ≡ f ++ lines_text (script_lines m.script) → new ≡ g ++ as_line (codes "end") → new ≡ match_text m
unfolding match_lines
match_puts m a b c d e f g new ea eb ec ed ee ef eg en =
    puts (opening_lines m) _ [] a new ea
    (puts (map plan_line m.plans) _ a b new eb
    (puts (map wall_line (walls_of m.layout.grid m.layout.grid.width m.layout.grid.height)) _ b c new ec
    (puts (map pickup_line m.layout.pickups) _ c d new ed
    (puts (player_lines m.names m.layout.players) _ d e new ee
    (puts (map command_line m.commands) _ e f new ef
    (puts (script_lines m.script) (codes "end" ∷ []) f g new eg (puts_one (codes "end") g new en)))))))
