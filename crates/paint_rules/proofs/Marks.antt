-- The cells of pickups are nobody's after they are wiped, and stay so while other cells are painted.
use Rattle.std.proofs.Common.{◌≡◌, ◌≢◌, ◌∙◌, ℕ, zero, suc, ◌+◌, ◌*◌, ◌<◌, ◌&&◌, nat_lt, not, true, false, List, [], ◌∷◌, set, get_or, refl, sym, ap, arith}
use Rattle.std.specs.List.{All}
use Rattle.std.proofs.lemmas.Bool.{and_parts}
use Rattle.std.proofs.lemmas.List.{get_or-set_other, set-get_or}
use Rattle.std.proofs.lemmas.List.Elements.{All-cons, All-head, All-nil, All-tail}
use Rattle.match_setup.specs.Ground.{Grid, is_walled, IsWalled, is_open}
use Rattle.match_setup.specs.Setup.{pickup_cell}
use Rattle.match_setup.specs.declared.pickup.PickupSpot.{PickupSpot}
use Rattle.paint_rules.specs.Owners.{cell_place, owner_of, painted}
use Rattle.paint_rules.specs.Beat.{wiped}

-- the pickup's cell is nobody's
abbrev Clean : List ℕ → PickupSpot → Type 0
Clean owners p = owner_of owners (pickup_cell p) ≡ 32

-- an open cell isn't walled
bare : (grid : Grid) (x y : ℕ) → is_open grid x y ≡ true → is_walled grid x y ≡ true → false ≡ true
unfolding is_open
bare grid x y free walled =
    let row = (and_parts (nat_lt x grid.width) (nat_lt y grid.height && not (is_walled grid x y)) free).1 in
    let unwalled : not (is_walled grid x y) ≡ true = (and_parts (nat_lt y grid.height) (not (is_walled grid x y)) row).1 in
    rw walled at unwalled

-- a cell in which no pickup lies has its owner elsewhere
elsewhere : (marks : Grid) (p : PickupSpot) (x y : ℕ) → x < 64 → p.x < 64 → IsWalled marks p.x p.y → is_open marks x y ≡ true → cell_place (pickup_cell p) ≢ x + 64 * y
elsewhere marks p x y near close marked free = λ same.
    let column : p.x ≡ x = omega (arith, same) in
    let row : p.y ≡ y = omega (arith, same, column) in
    let no : false ≡ true = bare marks x y free (rw (column, row) at marked) in cc

-- such a cell is painted
pub clean-painted :
    (marks : Grid) (pickups : List PickupSpot) (owners : List ℕ) (x y owner : ℕ) → x < 64
    → All (λ p. (p.x < 64) × (p.y < 64)) pickups → All (λ p. IsWalled marks p.x p.y) pickups
    → is_open marks x y ≡ true → All (Clean owners) pickups → All (Clean (painted owners (record { x = x; y = y }) owner)) pickups
clean-painted marks pickups owners x y owner near all_near marked free clean =
    λ k d within.
    get_or-set_other owners (x + 64 * y) (cell_place (pickup_cell (get_or pickups k d))) owner 32
    (elsewhere marks (get_or pickups k d) x y near (all_near k d within).0 (marked k d within) free)
    ∙ clean k d within

-- what is nobody's stays so while cells become nobody's
pub set-kept : (owners : List ℕ) (j i : ℕ) → get_or {A = ℕ} owners i 32 ≡ 32 → get_or {A = ℕ} (set owners j 32) i 32 ≡ 32
set-kept [] j i h = h
set-kept (o ∷ owners) zero zero h = refl
set-kept (o ∷ owners) zero (suc i) h = h
set-kept (o ∷ owners) (suc j) zero h = h
set-kept (o ∷ owners) (suc j) (suc i) h = set-kept owners j i h

set-here : (owners : List ℕ) (i : ℕ) → get_or {A = ℕ} (set owners i 32) i 32 ≡ 32
set-here [] i = refl
set-here (o ∷ owners) zero = refl
set-here (o ∷ owners) (suc i) = set-here owners i

wiped-kept : (pickups : List PickupSpot) (owners : List ℕ) (i : ℕ) → get_or {A = ℕ} owners i 32 ≡ 32 → get_or {A = ℕ} (wiped pickups owners) i 32 ≡ 32
unfolding wiped
wiped-kept [] owners i h = h
wiped-kept (p ∷ pickups) owners i h = wiped-kept pickups (painted owners (pickup_cell p) 32) i (set-kept owners (cell_place (pickup_cell p)) i h)

-- the cells are wiped
pub clean-wiped : (pickups : List PickupSpot) (owners : List ℕ) → All (Clean (wiped pickups owners)) pickups
unfolding wiped
clean-wiped [] owners = All-nil (Clean owners)
clean-wiped (p ∷ pickups) owners =
    let after = painted owners (pickup_cell p) 32 in
    All-cons (Clean (wiped pickups after)) p pickups
    (wiped-kept pickups after (cell_place (pickup_cell p)) (set-here owners (cell_place (pickup_cell p))))
    (clean-wiped pickups after)

-- where they are nobody's, nothing is wiped
pub wiped-clean : (pickups : List PickupSpot) (owners : List ℕ) → All (Clean owners) pickups → wiped pickups owners ≡ owners
unfolding wiped
wiped-clean [] owners clean = refl
wiped-clean (p ∷ pickups) owners clean =
    let place = cell_place (pickup_cell p) in
    let here : get_or owners place 32 ≡ 32 = All-head (Clean owners) p pickups clean in
    let same : set owners place 32 ≡ owners = ap (λ (o : ℕ). set owners place o) (sym here) ∙ set-get_or owners place 32 in
    ap (λ (l : List ℕ). wiped pickups l) same ∙ wiped-clean pickups owners (All-tail (Clean owners) p pickups clean)
