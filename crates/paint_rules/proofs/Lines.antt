-- The lines of players and of rows one after another.
use Rattle.std.proofs.Common.{◌≡◌, ℕ, ◌+◌, ◌<◌, nat_lt, not, Bool, true, false, if◌then◌else◌, List, [], ◌∷◌, ◌++◌, map, length, take, refl, sym, ap}
use Rattle.std.proofs.Common.{◌∙◌, append_assoc, append-nil, get_or, length-take, arith}
use Rattle.std.specs.List.{range_with_len}
use Rattle.std.proofs.lemmas.Grind.{take_at_read}
use Rattle.std.proofs.lemmas.List.FromFn.{map-range_with_len_more}
use Rattle.std.proofs.lemmas.Bool.Decides.{nat_tests}
use Rattle.tss_io.specs.Lines.{as_line, lines_text}
use Rattle.tss_io.proofs.Printing.{lines_text-append, puts_one}
use Rattle.match_setup.specs.Ground.{Grid, is_walled, is_open}
use Rattle.match_setup.specs.Words.{name_of}
use Rattle.match_setup.specs.declared.spot.Spot.{Spot}
use Rattle.paint_rules.specs.Owners.{owner_of, owned}
use Rattle.paint_rules.specs.Block.{painter_line, painter_lines, owner_byte, cell_byte}

-- the lines of one player more
painter_lines-push : (names : List (List ℕ)) (owners : List ℕ) (n : ℕ) (ps : List Spot) (p : Spot)
    → painter_lines names owners n (ps ++ p ∷ []) ≡ painter_lines names owners n ps
    ++ painter_line (name_of names (n + length ps)) (owned (n + length ps) owners) p
unfolding painter_lines
painter_lines-push names owners n [] p = let e : n + 0 ≡ n = omega arith in rw e (append-nil (painter_line (name_of names n) (owned n owners) p))
painter_lines-push names owners n (q ∷ ps) p =
    let e : n + 1 + length ps ≡ n + length (q ∷ ps) = omega arith in
    ap (λ l. painter_line (name_of names n) (owned n owners) q ++ l) (painter_lines-push names owners (n + 1) ps p) ∙ rw e (simp append_assoc refl)

-- no player has no line
pub no_painter_lines : (names : List (List ℕ)) (owners old : List ℕ) → old ≡ old ++ painter_lines names owners 0 []
unfolding painter_lines
no_painter_lines names owners old = sym (append-nil old)

-- the line of the next player
pub painter_lines-next : (names : List (List ℕ)) (owners : List ℕ) (ps : List Spot) (i : ℕ) (d : Spot)
    (old mid new : List ℕ) → i < length ps → mid ≡ old ++ painter_lines names owners 0 (take i ps) → new ≡ mid
    ++ painter_line (name_of names i) (owned i owners) (get_or ps i d) → new ≡ old
    ++ painter_lines names owners 0 (take (i + 1) ps)
painter_lines-next names owners ps i d old mid new within so_far next =
    let e : 0 + length (take i ps) ≡ i = omega (arith, length-take i ps) in
    next ∙ rw (so_far, (take_at_read ps i d within).1, painter_lines-push, e) (append_assoc old _ _)

-- no row has no line
pub no_row_lines : (f : ℕ → List ℕ) (old : List ℕ) → old ≡ old ++ lines_text (map f (range_with_len 0 0))
unfolding lines_text
no_row_lines f old = sym (append-nil old)

-- the line of the next row
pub row_lines-next : (f : ℕ → List ℕ) (y : ℕ) (old mid new : List ℕ) → mid ≡ old
    ++ lines_text (map f (range_with_len 0 y)) → new ≡ mid ++ as_line (f y) → new ≡ old
    ++ lines_text (map f (range_with_len 0 (y + 1)))
row_lines-next f y old mid new so_far next =
    puts_one (f y) mid new next
    ∙ rw (so_far, map-range_with_len_more f 0 y y (omega arith), lines_text-append) (append_assoc old _ _)

-- a cell of the grid is open where it isn't walled
is_open-inside : (grid : Grid) (x y : ℕ) → x < grid.width → y < grid.height → is_open grid x y ≡ not (is_walled grid x y)
unfolding is_open
is_open-inside grid x y column row =
    let left : nat_lt x grid.width ≡ true = grind (arith, nat_tests) in
    let above : nat_lt y grid.height ≡ true = grind (arith, nat_tests) in
    rw (left, above) refl

byte_by : (walled free : Bool) (byte : ℕ) → free ≡ not walled → (if walled then 35 else byte) ≡ (if free then byte else 35)
byte_by true free byte e = rw e refl
byte_by false free byte e = rw e refl

-- its byte
pub cell_byte-inside : (grid : Grid) (owners : List ℕ) (x y : ℕ) (free : Bool) → x < grid.width → y < grid.height
    → free ≡ is_open grid x y → cell_byte grid owners x y
    ≡ (if free then owner_byte (owner_of owners (record { x = x; y = y })) else 35)
cell_byte-inside grid owners x y free column row is = byte_by (is_walled grid x y) free (owner_byte (owner_of owners (record { x = x; y = y }))) (is ∙ is_open-inside grid x y column row)
