-- Whose the cells are as a match begins: each home is its player's, and all else is nobody's.
use Rattle.std.proofs.Common.{◌≡◌, ◌≢◌, ◌∙◌, ℕ, zero, suc, ◌+◌, ◌<◌, ◌==◌, ◌&&◌, true, false, List, [], ◌∷◌, ◌++◌, length, map, replicate, get_or, refl, sym, arith, length-set}
use Rattle.std.specs.List.{All, AllByRecursion, IsDistinct, list_any}
use Rattle.std.proofs.lemmas.Bool.{or_parts}
use Rattle.std.proofs.lemmas.Bool.Decides.{nat_tests}
use Rattle.std.proofs.lemmas.List.{get_or-set_same, get_or-set_other, length-replicate}
use Rattle.std.proofs.lemmas.List.Elements.{All-head, All-tail}
use Rattle.std.proofs.lemmas.Map.Keys.{IsDistinct-head, IsDistinct-tail}
use Rattle.match_setup.specs.Setup.{Layout, Cell, same_cell, spot_cell, pickup_cell, IsLayout}
use Rattle.match_setup.specs.declared.spot.Spot.{Spot}
use Rattle.paint_rules.specs.Owners.{unowned, cell_place, owner_of, painted}
use Rattle.paint_rules.specs.Scene.{settled, opening}
use Rattle.paint_rules.specs.Command.{is_held}
use Rattle.paint_rules.proofs.Openings.{homes-near}

-- a home in reach
abbrev Near : Spot → Type 0
Near home = (home.x < 64) × (home.y < 64)

-- other cells have their owners elsewhere
pub apart : (a b : Cell) → a.x < 64 → b.x < 64 → same_cell a b ≡ false → cell_place a ≢ cell_place b
apart a b near close other = λ same.
    let column : a.x ≡ b.x = omega (arith, same) in
    let row : a.y ≡ b.y = omega (arith, same, column) in
    let one : ((a.x == b.x) && (a.y == b.y)) ≡ true = grind (arith, nat_tests, column, row) in
    let no : true ≡ false = sym one ∙ other in cc

-- what isn't a home stays whose it was
settled-other : (n : ℕ) (homes : List Spot) (owners : List ℕ) (cell : Cell) → cell.x < 64 → All Near homes
    → list_any (λ h. same_cell cell (spot_cell h)) homes ≡ false
    → owner_of (settled n homes owners) cell ≡ owner_of owners cell
unfolding settled
settled-other n [] owners cell near homes free = refl
settled-other n (h ∷ hs) owners cell near homes free =
    let parts = or_parts (same_cell cell (spot_cell h)) (list_any (λ s. same_cell cell (spot_cell s)) hs) free in
    settled-other (n + 1) hs (painted owners (spot_cell h) n) cell near (All-tail Near h hs homes) parts.1
    ∙ get_or-set_other owners (cell_place (spot_cell h)) (cell_place cell) n 32 (apart cell (spot_cell h) near (All-head Near h hs homes).0 parts.0)

-- nobody else has this home
free_home : (cell : Cell) (homes : List Spot) → AllByRecursion (λ c. same_cell cell c ≡ false) (map spot_cell homes) → list_any (λ h. same_cell cell (spot_cell h)) homes ≡ false
free_home cell [] other = refl
free_home cell (h ∷ hs) other = let rest : list_any (λ s. same_cell cell (spot_cell s)) hs ≡ false = free_home cell hs other.1 in rw (other.0, rest) refl

-- each home is its player's
settled-home : (n : ℕ) (homes : List Spot) (owners : List ℕ) (k : ℕ) (d : Spot) → length owners ≡ 4096 → All Near homes
    → IsDistinct same_cell (map spot_cell homes) → k < length homes
    → owner_of (settled n homes owners) (spot_cell (get_or homes k d)) ≡ n + k
unfolding settled
settled-home n [] owners k d long homes other within = absurd (omega arith)
settled-home n (h ∷ hs) owners zero d long homes other within =
    let near = All-head Near h hs homes in
    let column = near.0 in
    let row = near.1 in
    settled-other (n + 1) hs (painted owners (spot_cell h) n) (spot_cell h) near.0 (All-tail Near h hs homes)
    (free_home (spot_cell h) hs (IsDistinct-head same_cell (spot_cell h) (map spot_cell hs) other))
    ∙ get_or-set_same owners (cell_place (spot_cell h)) n 32 (omega (arith, long, column, row))
    ∙ omega arith
settled-home n (h ∷ hs) owners (suc k) d long homes other within =
    let length_is : length (painted owners (spot_cell h) n) ≡ 4096 = length-set owners (cell_place (spot_cell h)) n ∙ long in
    settled-home (n + 1) hs (painted owners (spot_cell h) n) k d length_is (All-tail Near h hs homes) (IsDistinct-tail same_cell (spot_cell h) (map spot_cell hs) other) (omega arith)
    ∙ omega arith

pub length-unowned : length unowned ≡ 4096
unfolding unowned
length-unowned = length-replicate {A = ℕ} 4096 32

-- every place is nobody's, also past the end
get_or-unowned : (n i : ℕ) → get_or {A = ℕ} (replicate n 32) i 32 ≡ 32
get_or-unowned zero i = refl
get_or-unowned (suc n) zero = refl
get_or-unowned (suc n) (suc i) = get_or-unowned n i

pub owner_of-unowned : (cell : Cell) → owner_of unowned cell ≡ 32
unfolding unowned
owner_of-unowned cell = get_or-unowned 4096 (cell_place cell)

-- the back of a list of different cells
pub distinct-back : (xs ys : List Cell) → IsDistinct same_cell (xs ++ ys) → IsDistinct same_cell ys
distinct-back [] ys other = other
distinct-back (x ∷ xs) ys other = distinct-back xs ys (IsDistinct-tail same_cell x (xs ++ ys) other)

-- the homes as a match begins
pub opening-homes : (layout : Layout) → IsLayout layout → (k : ℕ) → (d : Spot) → k < length layout.players → owner_of (opening layout).owners (spot_cell (get_or layout.players k d)) ≡ k
opening-homes layout possible k d within =
    settled-home 0 layout.players unowned k d length-unowned (homes-near layout possible)
    (distinct-back (map pickup_cell layout.pickups) (map spot_cell layout.players) possible.apart) within
    ∙ omega arith

-- and all else
pub opening-others : (layout : Layout) → IsLayout layout → (x y : ℕ) → x < 64
    → is_held layout.players (record { x = x; y = y }) ≡ false
    → owner_of (opening layout).owners (record { x = x; y = y }) ≡ 32
unfolding is_held
opening-others layout possible x y near free =
    settled-other 0 layout.players unowned (record { x = x; y = y }) near (homes-near layout possible) free ∙ owner_of-unowned (record { x = x; y = y })
