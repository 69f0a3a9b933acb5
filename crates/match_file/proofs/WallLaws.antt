-- Walls as cells, row by row, and as bits of a grid.
use Rattle.std.proofs.Common.{◌≡◌, ◌≢◌, inl, inr, ℕ, zero, suc, ◌+◌, ◌-◌, ◌*◌, ◌/◌, ◌%◌, ◌^◌, ◌<◌, ◌≤◌, Bool, true, false, cond, eqb, ltb, ◌&&◌, ◌||◌, List}
use Rattle.std.proofs.Common.{[], ◌∷◌, ◌++◌, length, map, Option, Some, None, refl, sym, ap, subst, ◌∙◌, take, get_or, lit<, arith}
use Rattle.std.proofs.Math.Nat.{pow-suc}
use Rattle.std.specs.Int.{bit_at}
use Rattle.std.specs.List.{AllByRecursion, list_any}
use Rattle.std.proofs.lemmas.Bool.{cases_lt, cases_eq, ltb-true, lt-ltb, eqb-true, eq-eqb, ne_eqb, and_parts, or_cases}
use Rattle.std.proofs.lemmas.Bool.Decides.{nat_tests}
use Rattle.std.proofs.lemmas.List.{map-append, ext_get_or}
use Rattle.std.proofs.lemmas.Grind.{take_at_read}
use Rattle.std.proofs.lemmas.Nat.Bits.{same_from_bits_below, bit_at-lt}
use Rattle.match_setup.specs.Ground.{Grid, IsGrid, open_grid, is_walled, with_wall}
use Rattle.match_setup.proofs.Walls.{is_walled-open_grid, is_walled-with_wall, IsGrid-open_grid, IsGrid-with_wall}
use Rattle.sync_model.specs.Schedule.{DelaysRise}
use Rattle.tss_base.proofs.ListLaws.{any_append, all_push, all_to}
use Rattle.match_file.specs.declared.cell.Cell.{Cell}
use Rattle.match_file.specs.Kinds.{has_wall, is_behind, last_cell}
use Rattle.match_file.specs.Reading.{walled}
use Rattle.match_file.specs.Text.{walls_in_row, walls_of}
use Rattle.tss_base.proofs.ListLaws.{all_append}

-- ---- cells as numbers

abbrev pub place : Cell → ℕ
place c = c.y * 64 + c.x

abbrev pub InColumns : List Cell → Type 0
InColumns cells = AllByRecursion (λ c. c.x < 64) cells

abbrev mem : ℕ → List ℕ → Bool
mem n ns = list_any (λ k. eqb k n) ns

-- ---- rising numbers

-- one greater number behind rising ones
pub rises_push : (xs : List ℕ) (a : ℕ) → DelaysRise xs → AllByRecursion (λ x. x < a) xs → DelaysRise (xs ++ a ∷ [])
unfolding DelaysRise
rises_push [] a h below = (tt, tt)
rises_push (x ∷ xs) a h below = (all_push (λ y. x < y) xs a h.0 below.0, rises_push xs a h.1 below.1)

rises_append : (k : ℕ) (xs ys : List ℕ) → DelaysRise xs → DelaysRise ys → AllByRecursion (λ x. x < k) xs → AllByRecursion (λ y. k ≤ y) ys → DelaysRise (xs ++ ys)
unfolding DelaysRise
rises_append k [] ys h g below above = g
rises_append k (x ∷ xs) ys h g below above =
    let small = below.0 in
    (all_append (λ y. x < y) xs ys h.0 (all_to (λ y. k ≤ y) (λ y. x < y) (λ y le. omega arith) ys above), rises_append k xs ys h.1 g below.1 above)

not_mem : (x : ℕ) (ys : List ℕ) → AllByRecursion (λ y. x < y) ys → mem x ys ≡ false
not_mem x [] h = refl
not_mem x (y ∷ ys) h = let less = h.0 in let e : eqb y x ≡ false = grind (arith, nat_tests) in rw (e, not_mem x ys h.1) refl

tail_same : (x n : ℕ) (xs ys : List ℕ) → AllByRecursion (λ y. x < y) xs → AllByRecursion (λ y. x < y) ys → (eqb x n || mem n xs) ≡ (eqb x n || mem n ys) → mem n xs ≡ mem n ys
tail_same x n xs ys above also same =
    elim (cases_eq x n) [
      | inl e ↦ subst (λ (k : ℕ). mem k xs ≡ mem k ys) e (not_mem x xs above ∙ sym (not_mem x ys also))
      | inr apart ↦ rw (ne_eqb x n apart) at same
    ]

first_in : (x : ℕ) (xs : List ℕ) → mem x (x ∷ xs) ≡ true
first_in x xs = rw (eq-eqb x x refl) refl

-- rising lists of the same numbers are the same
unique : (xs ys : List ℕ) → DelaysRise xs → DelaysRise ys → ((n : ℕ) → mem n xs ≡ mem n ys) → xs ≡ ys
unfolding DelaysRise
unique [] [] h g same = refl
unique [] (y ∷ ys) h g same = let e : false ≡ true = same y ∙ first_in y ys in absurd cc
unique (x ∷ xs) [] h g same = let e : false ≡ true = sym (same x) ∙ first_in x xs in absurd cc
unique (x ∷ xs) (y ∷ ys) h g same =
    elim (cases_lt x y) [
      | inl less ↦
          let above : AllByRecursion (λ z. x < z) ys = all_to (λ z. y < z) (λ z. x < z) (λ z lt. omega arith) ys g.0 in
          let e : false ≡ true = sym (not_mem x (y ∷ ys) (less, above)) ∙ sym (same x) ∙ first_in x xs in absurd cc
      | inr more ↦ elim (cases_lt y x) [
        | inl less ↦
            let above : AllByRecursion (λ z. y < z) xs = all_to (λ z. x < z) (λ z. y < z) (λ z lt. omega arith) xs h.0 in
            let e : false ≡ true = sym (not_mem y (x ∷ xs) (less, above)) ∙ same y ∙ first_in y ys in absurd cc
        | inr also ↦
            let equal : x ≡ y = omega arith in
            let rest : xs ≡ ys = unique xs ys h.1 g.1 (λ n. tail_same x n xs ys h.0
            (subst (λ (k : ℕ). AllByRecursion (λ z. k < z) ys) (sym equal) g.0)
            (same n ∙ ap (λ (k : ℕ). eqb k n || mem n ys) (sym equal))) in
            rw (equal, rest) refl
      ]
    ]

-- ---- cells by their numbers

same_place : (c : Cell) (n : ℕ) → c.x < 64 → eqb (c.y * 64 + c.x) n ≡ (eqb c.x (n % 64) && eqb c.y (n / 64))
same_place c n within = grind (arith, nat_tests)

has_place : (cells : List Cell) (n : ℕ) → InColumns cells → mem n (map place cells) ≡ has_wall (n % 64) (n / 64) cells
unfolding has_wall
has_place [] n h = refl
has_place (c ∷ cells) n h = rw (same_place c n h.0, has_place cells n h.1) refl

first_same : (a b : ℕ) (xs ys : List ℕ) → a ∷ xs ≡ b ∷ ys → a ≡ b
first_same a b xs ys e = cc

rest_same : (a b : ℕ) (xs ys : List ℕ) → a ∷ xs ≡ b ∷ ys → xs ≡ ys
rest_same a b xs ys e = cc

same_cells : (xs ys : List Cell) → InColumns xs → InColumns ys → map place xs ≡ map place ys → xs ≡ ys
same_cells [] [] h k e = refl
same_cells [] (y ∷ ys) h k e = absurd cc
same_cells (x ∷ xs) [] h k e = absurd cc
same_cells (x ∷ xs) (y ∷ ys) h k e =
    let here : x.y * 64 + x.x ≡ y.y * 64 + y.x = first_same _ _ _ _ e in
    let one = h.0 in
    let two = k.0 in
    let cx : x.x ≡ y.x = omega arith in
    let cy : x.y ≡ y.y = omega arith in
    let same : x ≡ y = λ i. record { x = cx i; y = cy i } in
    rw (same, same_cells xs ys h.1 k.1 (rest_same _ _ _ _ e)) refl

-- rising cells of the same walls are the same
pub same_walls : (xs ys : List Cell) → InColumns xs → InColumns ys → DelaysRise (map place xs) → DelaysRise (map place ys) → ((x y : ℕ) → has_wall x y xs ≡ has_wall x y ys) → xs ≡ ys
same_walls xs ys h k rise also same =
    same_cells xs ys h k (unique (map place xs) (map place ys) rise also (λ n. has_place xs n h ∙ same (n % 64) (n / 64) ∙ sym (has_place ys n k)))

-- ---- a grid with cells walled

pub walled_width : (g : Grid) (cells : List Cell) → (walled g cells).width ≡ g.width
unfolding walled with_wall
walled_width g [] = refl
walled_width g (c ∷ cells) = walled_width (with_wall g c.x c.y) cells

pub walled_height : (g : Grid) (cells : List Cell) → (walled g cells).height ≡ g.height
unfolding walled with_wall
walled_height g [] = refl
walled_height g (c ∷ cells) = walled_height (with_wall g c.x c.y) cells

pub walled_none : (g : Grid) → g ≡ walled g []
unfolding walled
walled_none g = refl

pub walled_push : (g : Grid) (cells : List Cell) (c : Cell) → walled g (cells ++ c ∷ []) ≡ with_wall (walled g cells) c.x c.y
unfolding walled
walled_push g [] c = refl
walled_push g (d ∷ cells) c = walled_push (with_wall g d.x d.y) cells c

-- the next of the cells
pub walled_next : (g : Grid) (cells : List Cell) (i : ℕ) (d : Cell) (mid new : Grid) → i < length cells → mid
    ≡ walled g (take i cells) → new ≡ with_wall mid (get_or cells i d).x (get_or cells i d).y → new
    ≡ walled g (take (i + 1) cells)
walled_next g cells i d mid new within so_far next = next ∙ rw (so_far, (take_at_read cells i d within).1) (sym (walled_push g (take i cells) (get_or cells i d)))

abbrev pub InGrid : ℕ → ℕ → List Cell → Type 0
InGrid width height cells = AllByRecursion (λ c. (c.x < width) × (c.y < height)) cells

pub walled_grid : (g : Grid) (cells : List Cell) → IsGrid g → InGrid g.width g.height cells → IsGrid (walled g cells)
unfolding walled with_wall
walled_grid g [] is h = is
walled_grid g (c ∷ cells) is h = walled_grid (with_wall g c.x c.y) cells (IsGrid-with_wall g c.x c.y is h.0.0 h.0.1) h.1

shuffled : (h w b : Bool) → (h || (w || b)) ≡ ((b || h) || w)
shuffled true true true = refl
shuffled true true false = refl
shuffled true false true = refl
shuffled true false false = refl
shuffled false true true = refl
shuffled false true false = refl
shuffled false false true = refl
shuffled false false false = refl

shuffle : (h w a b : Bool) → a ≡ b → (h || (w || a)) ≡ ((b || h) || w)
shuffle h w a b e = ap (λ c. h || (w || c)) e ∙ shuffled h w b

turned : (a b c d : ℕ) → (eqb a b && eqb c d) ≡ (eqb b a && eqb d c)
turned a b c d = grind (arith, nat_tests)

sides_same : (g : Grid) (c : Cell) (cells : List Cell) → InGrid g.width g.height cells → InGrid (with_wall g c.x c.y).width (with_wall g c.x c.y).height cells
unfolding with_wall
sides_same g c cells h = h

pub walled_has : (g : Grid) (cells : List Cell) (x y : ℕ) → IsGrid g → InGrid g.width g.height cells → is_walled (walled g cells) x y ≡ (has_wall x y cells || is_walled g x y)
unfolding walled has_wall
walled_has g [] x y is h = refl
walled_has g (c ∷ cells) x y is h =
    let low = h.0.1 in
    let high = is.height.1 in
    walled_has (with_wall g c.x c.y) cells x y (IsGrid-with_wall g c.x c.y is h.0.0 h.0.1) (sides_same g c cells h.1)
    ∙ ap (λ b. has_wall x y cells || b) (is_walled-with_wall g c.x c.y x y (omega (arith, is.rows)))
    ∙ shuffle (has_wall x y cells) (is_walled g x y) _ _ (turned x c.x y c.y)

-- ---- the walls of a grid

row_none : (x y r : ℕ) (here : Bool) → false ≡ (eqb y r && (ltb x 0 && here))
row_none x y r here = grind (arith, nat_tests)

row_same : (x y r : ℕ) (here : Bool) → ((eqb y r && (ltb x x && here)) || (cond here ((eqb x x && eqb r y) || false) false)) ≡ (eqb y r && (ltb x (suc x) && here))
row_same x y r true = grind (arith, nat_tests)
row_same x y r false = grind (arith, nat_tests)

row_other : (x n y r : ℕ) (here there : Bool) → x ≢ n → ((eqb y r && (ltb x n && here)) || (cond there ((eqb n x && eqb r y) || false) false)) ≡ (eqb y r && (ltb x (suc n) && here))
row_other x n y r here true apart = grind (arith, nat_tests)
row_other x n y r here false apart = grind (arith, nat_tests)

pick_has : (b : Bool) (x y n r : ℕ) → list_any (λ c. eqb c.x x && eqb c.y y) (cond {A = List Cell} b (record { x = n; y = r } ∷ []) []) ≡ cond b ((eqb n x && eqb r y) || false) false
pick_has true x y n r = refl
pick_has false x y n r = refl

column_none : (y : ℕ) (b : Bool) → false ≡ (ltb y 0 && b)
column_none y b = grind (arith, nat_tests)

column_last : (y n : ℕ) (column here there : Bool) → (y ≡ n → here ≡ there) → ((ltb y n && (column && here)) || (eqb y n && (column && there))) ≡ (ltb y (suc n) && (column && here))
column_last y n column here there same =
    elim (cases_eq y n) [
      | inl e ↦ rw (← same e, ← e) (grind (arith, nat_tests))
      | inr apart ↦ grind (arith, nat_tests)
    ]

row_last : (w x n y r : ℕ) (here there : Bool) → (x ≡ n → here ≡ there) → ((eqb y r && (ltb x n && here)) || (cond there ((eqb n x && eqb r y) || false) false)) ≡ (eqb y r && (ltb x (suc n) && here))
row_last w x n y r here there same =
    elim (cases_eq x n) [
      | inl e ↦ rw (← same e, ← e) (row_same x y r here)
      | inr apart ↦ row_other x n y r here there apart
    ]

pub row_has : (g : Grid) (r x y n : ℕ) → has_wall x y (walls_in_row g r n) ≡ (eqb y r && (ltb x n && is_walled g x r))
unfolding has_wall walls_in_row
row_has g r x y zero = row_none x y r (is_walled g x r)
row_has g r x y (suc n) =
    any_append _ (walls_in_row g r n) _ ∙ rw (row_has g r x y n)
    (ap (λ b. (eqb y r && (ltb x n && is_walled g x r)) || b) (pick_has (is_walled g n r) x y n r)
    ∙ row_last 0 x n y r (is_walled g x r) (is_walled g n r) (λ e. ap (λ k. is_walled g k r) e))

pub walls_has : (g : Grid) (w x y n : ℕ) → has_wall x y (walls_of g w n) ≡ (ltb y n && (ltb x w && is_walled g x y))
unfolding has_wall walls_of
walls_has g w x y zero = column_none y (ltb x w && is_walled g x y)
walls_has g w x y (suc n) =
    any_append _ (walls_of g w n) (walls_in_row g n w)
    ∙ rw (walls_has g w x y n) (ap (λ b. (ltb y n && (ltb x w && is_walled g x y)) || b) (row_has g n x y w)
    ∙ column_last y n (ltb x w) (is_walled g x y) (is_walled g x n) (λ e. ap (λ k. is_walled g x k) e))

-- ---- the walls of a grid rise, and are in it

-- cells that rise, are in this number of columns, and stand from one number on and below another
pub record Rising (width least most : ℕ) (cells : List Cell) : Type 0 where
  pub rise : DelaysRise (map place cells)
  pub columns : AllByRecursion (λ c. c.x < width) cells
  pub low : AllByRecursion (λ n. least ≤ n) (map place cells)
  pub high : AllByRecursion (λ n. n < most) (map place cells)

cells_append : (P : Cell → Type 0) (xs ys : List Cell) → AllByRecursion P xs → AllByRecursion P ys → AllByRecursion P (xs ++ ys)
cells_append P [] ys h k = k
cells_append P (x ∷ xs) ys h k = (h.0, cells_append P xs ys h.1 k)

rising_append : (width a b c d : ℕ) (xs ys : List Cell) → a ≤ c → b ≤ c → b ≤ d → Rising width a b xs → Rising width c d ys → Rising width a d (xs ++ ys)
rising_append width a b c d xs ys ac bc bd h k = record {
  rise = rw (map-append place xs ys) (rises_append b (map place xs) (map place ys) h.rise k.rise h.high (all_to (λ n. c ≤ n) (λ n. b ≤ n) (λ n le. omega arith) (map place ys) k.low));
  columns = cells_append (λ e. e.x < width) xs ys h.columns k.columns;
  low = rw (map-append place xs ys) (all_append (λ n. a ≤ n) (map place xs) (map place ys) h.low (all_to (λ n. c ≤ n) (λ n. a ≤ n) (λ n le. omega arith) (map place ys) k.low));
  high = rw (map-append place xs ys) (all_append (λ n. n < d) (map place xs) (map place ys) (all_to (λ n. n < b) (λ n. n < d) (λ n lt. omega arith) (map place xs) h.high) k.high);
}

rising_none : (width least most : ℕ) → Rising width least most []
unfolding DelaysRise
rising_none width least most = record { rise = tt; columns = tt; low = tt; high = tt }

rising_one : (width : ℕ) (c : Cell) (b : Bool) → c.x < width → Rising width (place c) (place c + 1) (cond {A = List Cell} b (c ∷ []) [])
unfolding DelaysRise
rising_one width c true within = record { rise = (tt, tt); columns = (within, tt); low = (omega arith, tt); high = (omega arith, tt) }
rising_one width c false within = rising_none width (place c) (place c + 1)

row_rises : (g : Grid) (r width n : ℕ) → n ≤ width → Rising width (r * 64) (r * 64 + n) (walls_in_row g r n)
unfolding walls_in_row
row_rises g r width zero le = rising_none width (r * 64) (r * 64 + 0)
row_rises g r width (suc n) le =
    let e : r * 64 + n + 1 ≡ r * 64 + suc n = omega arith in
    subst (λ (k : ℕ). Rising width (r * 64) k (walls_in_row g r n ++ cond {A = List Cell} (is_walled g n r) (record { x = n; y = r } ∷ []) [])) e
    (rising_append width (r * 64) (r * 64 + n) (r * 64 + n) (r * 64 + n + 1) (walls_in_row g r n) _ (omega arith)
    (omega arith) (omega arith) (row_rises g r width n (omega arith))
    (rising_one width (record { x = n; y = r }) (is_walled g n r) (omega arith)))

pub walls_rise : (g : Grid) (width n : ℕ) → width ≤ 64 → Rising width 0 (n * 64) (walls_of g width n)
unfolding walls_of
walls_rise g width zero le = rising_none width 0 0
walls_rise g width (suc n) le =
    let row = row_rises g n width width (omega arith) in
    let e : suc n * 64 ≡ n * 64 + 64 = omega arith in
    subst (λ (k : ℕ). Rising width 0 k (walls_of g width n ++ walls_in_row g n width)) (sym e)
    (rising_append width 0 (n * 64) (n * 64) (n * 64 + 64) (walls_of g width n) (walls_in_row g n width) (omega arith) (omega arith) (omega arith) (walls_rise g width n le)
    (record { rise = row.rise; columns = row.columns; low = row.low; high = all_to (λ k. k < n * 64 + width) (λ k. k < n * 64 + 64) (λ k lt. omega arith) _ row.high }))

in_grid_of : (width height : ℕ) (cells : List Cell) → AllByRecursion (λ c. c.x < width) cells → AllByRecursion (λ n. n < height * 64) (map place cells) → InGrid width height cells
in_grid_of width height [] h k = tt
in_grid_of width height (c ∷ cells) h k = let low = k.0 in ((h.0, omega arith), in_grid_of width height cells h.1 k.1)

pub walls_in_grid : (g : Grid) → IsGrid g → InGrid g.width g.height (walls_of g g.width g.height)
walls_in_grid g is = let r = walls_rise g g.width g.height is.width.1 in in_grid_of g.width g.height _ r.columns r.high

pub in_columns : (width height : ℕ) (cells : List Cell) → width ≤ 64 → InGrid width height cells → InColumns cells
in_columns width height cells le h = all_to (λ c. (c.x < width) × (c.y < height)) (λ c. c.x < 64) (λ c k. let low = k.0 in omega arith) cells h

and_and_false : (a b : Bool) → (a && (b && false)) ≡ false
and_and_false true true = refl
and_and_false true false = refl
and_and_false false true = refl
and_and_false false false = refl

or_false : (b : Bool) → (b || false) ≡ b
or_false true = refl
or_false false = refl

-- every wall of a grid is among its walls
pub grid_has : (g : Grid) (x y : ℕ) → IsGrid g → has_wall x y (walls_of g g.width g.height) ≡ is_walled g x y
grid_has g x y is =
    walls_has g g.width x y g.height ∙ elim (is_walled g x y) as (λ b. is_walled g x y ≡ b → (ltb y g.height && (ltb x g.width && b)) ≡ b) [
      | true ↦ λ e. let in_it = is.walls x y e in let s : ltb x g.width ≡ true = lt-ltb _ _ in_it.0 in let t : ltb y g.height ≡ true = lt-ltb _ _ in_it.1 in rw (s, t) refl
      | false ↦ λ e. and_and_false (ltb y g.height) (ltb x g.width)
    ] refl

-- the walls of a grid made of rising cells are those cells
pub walls_again : (width height : ℕ) (cells : List Cell) → IsGrid (open_grid width height) → InGrid width height cells
    → DelaysRise (map place cells) → walls_of (walled (open_grid width height) cells) width height ≡ cells
walls_again width height cells is within rise =
    let g = walled (open_grid width height) cells in
    let gw : g.width ≡ width = walled_width (open_grid width height) cells in
    let gh : g.height ≡ height = walled_height (open_grid width height) cells in
    let whole = walled_grid (open_grid width height) cells is within in
    let r = walls_rise g width height is.width.1 in
    same_walls (walls_of g width height) cells (in_columns width height _ is.width.1 (in_grid_of width height _ r.columns r.high)) (in_columns width height cells is.width.1 within) r.rise rise
    (λ x y. subst (λ (h : ℕ). has_wall x y (walls_of g width h) ≡ is_walled g x y) gh (subst (λ (w : ℕ). has_wall x y (walls_of g w g.height) ≡ is_walled g x y) gw (grid_has g x y whole))
    ∙ walled_has (open_grid width height) cells x y is within ∙ rw (is_walled-open_grid width height x y) (or_false (has_wall x y cells)))

-- ---- grids with the same walls

abbrev wall_bit : ℕ → ℕ → Bool
wall_bit row x = eqb (bit_at row x) 1

below_own_power : (n : ℕ) → n < 2 ^ n
below_own_power zero = lit< tt
below_own_power (suc n) = let h = below_own_power n in omega (arith, pow-suc 2 n)

power_more : (a b : ℕ) → 2 ^ a ≤ 2 ^ (a + b)
power_more a zero = let e : a + 0 ≡ a = omega arith in rw e (omega arith)
power_more a (suc b) = let h = power_more a b in let e : a + suc b ≡ suc (a + b) = omega arith in rw e (omega (arith, pow-suc 2 (a + b)))

below_power : (a b : ℕ) → a < 2 ^ (a + b)
below_power a b = let h = below_own_power a in let k = power_more a b in omega arith

below_power_too : (a b : ℕ) → b < 2 ^ (a + b)
below_power_too a b = let e : a + b ≡ b + a = omega arith in rw e (below_power b a)

same_bit : (a b : ℕ) → a < 2 → b < 2 → eqb a 1 ≡ eqb b 1 → a ≡ b
same_bit a b small also same = grind (arith, nat_tests)

same_bits : (a b : ℕ) → ((x : ℕ) → wall_bit a x ≡ wall_bit b x) → a ≡ b
same_bits a b same =
    same_from_bits_below (a + b) a b (below_power a b) (below_power_too a b) (λ i _. same_bit (bit_at a i) (bit_at b i) (bit_at-lt a i) (bit_at-lt b i) (same i))

same_rows : (xs ys : List ℕ) → length xs ≡ length ys → ((x y : ℕ) → wall_bit (get_or xs y 0) x ≡ wall_bit (get_or ys y 0) x) → xs ≡ ys
same_rows xs ys long same = ext_get_or 0 xs ys long (λ y _. same_bits (get_or xs y 0) (get_or ys y 0) (λ x. same x y))

pub same_grids : (g h : Grid) → g.width ≡ h.width → g.height ≡ h.height → length g.walls ≡ length h.walls → ((x y : ℕ) → is_walled g x y ≡ is_walled h x y) → g ≡ h
unfolding is_walled
same_grids g h wide high long same =
    let rows : g.walls ≡ h.walls = same_rows g.walls h.walls long same in
    λ i. record { width = wide i; height = high i; walls = rows i }

-- a grid is the open one with its walls walled
pub grid_again : (g : Grid) → IsGrid g → walled (open_grid g.width g.height) (walls_of g g.width g.height) ≡ g
grid_again g is =
    let empty : IsGrid (open_grid g.width g.height) = IsGrid-open_grid g.width g.height is.width.0 is.width.1 is.height.0 is.height.1 in
    let cells = walls_of g g.width g.height in
    let within = walls_in_grid g is in
    let whole = walled_grid (open_grid g.width g.height) cells empty within in
    same_grids (walled (open_grid g.width g.height) cells) g (walled_width (open_grid g.width g.height) cells) (walled_height (open_grid g.width g.height) cells) (whole.rows ∙ sym is.rows)
    (λ x y. walled_has (open_grid g.width g.height) cells x y empty within ∙ rw (is_walled-open_grid g.width g.height x y) (or_false (has_wall x y cells)) ∙ grid_has g x y is)

-- ---- one behind another

abbrev pub option_next : Option Cell → ℕ
option_next None = 0
option_next (Some c) = place c + 1

-- the first number behind the last cell
abbrev pub next_place : List Cell → ℕ
next_place cells = option_next (last_cell cells)

pub last_step : (d e : Cell) (cells : List Cell) → last_cell (d ∷ e ∷ cells) ≡ last_cell (e ∷ cells)
last_step d e cells = let k : length (d ∷ e ∷ cells) - 1 ≡ suc (length (e ∷ cells) - 1) = omega arith in rw k refl

last_more : (d : Cell) (cells : List Cell) (c : Cell) → last_cell (cells ++ c ∷ []) ≡ Some c → last_cell (d ∷ (cells ++ c ∷ [])) ≡ Some c
last_more d [] c h = refl
last_more d (e ∷ cells) c h = last_step d e (cells ++ c ∷ []) ∙ h

pub last_push : (cells : List Cell) (c : Cell) → last_cell (cells ++ c ∷ []) ≡ Some c
last_push [] c = refl
last_push (d ∷ cells) c = last_more d cells c (last_push cells c)

behind_one : (c d : Cell) → d.x < 64 → is_behind c (Some d) ≡ true → place d + 1 ≤ place c
behind_one c d within h = elim (or_cases (ltb d.y c.y) (eqb d.y c.y && ltb d.x c.x) h) [
  | inl lower ↦ let less = ltb-true _ _ lower in omega arith
  | inr same ↦ let parts = and_parts (eqb d.y c.y) (ltb d.x c.x) same in let e = eqb-true _ _ parts.0 in let less = ltb-true _ _ parts.1 in omega arith
]

abbrev pub LastSmall : Option Cell → Type 0
LastSmall None = Unit {0}
LastSmall (Some d) = d.x < 64

pub behind_place : (c : Cell) (o : Option Cell) → LastSmall o → is_behind c o ≡ true → option_next o ≤ place c
behind_place c None within h = omega arith
behind_place c (Some d) within h = behind_one c d within h

place_behind : (c d : Cell) → c.x < 64 → d.x < 64 → place d < place c → is_behind c (Some d) ≡ true
place_behind c d small also less = grind (arith, nat_tests)

-- the cell behind rising ones is behind the last of them
pub rising_behind : (front : List Cell) (c : Cell) (more : List Cell) → InColumns (front ++ c ∷ more) → DelaysRise (map place (front ++ c ∷ more)) → is_behind c (last_cell front) ≡ true
unfolding DelaysRise
rising_behind [] c more columns rise = refl
rising_behind (d ∷ []) c more columns rise = place_behind c d columns.1.0 columns.0 rise.0.0
rising_behind (d ∷ e ∷ front) c more columns rise = rw (last_step d e front) (rising_behind (e ∷ front) c more columns.1 rise.1)
