-- Where players stand and whose the cells are, as acts and beats change them.
use Rattle.std.proofs.Common.{◌≡◌, ◌∙◌, ℕ, zero, suc, ◌+◌, ◌<◌, ◌≤◌, ◌==◌, true, false, if◌then◌else◌, ℤ, pos, negsuc, Option, Some, None, slice_get, unwrap_or, List, [], ◌∷◌, map, length, set, refl, sym, ap, subst, arith, length-set}
use Rattle.std.specs.List.{AllByRecursion, IsDistinct, list_all, list_any}
use Rattle.std.specs.Option.{option_map_or}
use Rattle.std.proofs.lemmas.Bool.{and_parts, or_parts}
use Rattle.std.proofs.lemmas.Bool.Decides.{nat_tests}
use Rattle.std.proofs.lemmas.List.{get_or-set_other}
use Rattle.std.proofs.lemmas.List.Folds.{list_all-append}
use Rattle.match_setup.specs.Ground.{Grid, IsGrid, is_open}
use Rattle.match_setup.specs.Setup.{Layout, Cell, same_cell, spot_cell, pickup_cell, IsLayout}
use Rattle.match_setup.specs.Facing.{ahead, open_spot, open_ahead}
use Rattle.match_setup.specs.declared.face.Face.{Face}
use Rattle.match_setup.specs.declared.pickup.PickupSpot.{PickupSpot}
use Rattle.match_setup.specs.declared.spot.Spot.{Spot}
use Rattle.paint_rules.specs.Owners.{cell_place, owner_of, painted}
use Rattle.paint_rules.specs.Scene.{settled, opening}
use Rattle.paint_rules.specs.Command.{is_held, painted_ahead}
use Rattle.paint_rules.specs.Beat.{wiped}
use Rattle.paint_rules.specs.World.{Stands, AreOwners}
use Rattle.paint_rules.proofs.Counts.{owners-set, owners-unowned}
use Rattle.paint_rules.proofs.Homes.{apart, distinct-back, length-unowned, owner_of-unowned}
use Rattle.paint_rules.proofs.Marks.{set-kept}
use Rattle.paint_rules.proofs.Steps.{is_open-near}

-- the spot ahead is open
spot-open : (grid : Grid) (face : Face) (place : ℤ × ℤ) (spot : Spot) → open_spot grid face place ≡ Some spot → is_open grid spot.x spot.y ≡ true
spot-open grid face (pos x, pos y) spot found =
    elim (is_open grid x y) as (λ v. is_open grid x y ≡ v → (if v then Some (record { x = x; y = y; face = face }) else None) ≡ Some spot → is_open grid spot.x spot.y ≡ true) [
      | true ↦ λ free here. subst (λ (o : Option Spot). is_open grid (unwrap_or o spot).x (unwrap_or o spot).y ≡ true) here free
      | false ↦ λ _ nowhere. absurd (let e : None ≡ Some spot = nowhere in cc)
    ] refl found
spot-open grid face (pos x, negsuc y) spot found = absurd (let e : None ≡ Some spot = found in cc)
spot-open grid face (negsuc x, y) spot found = absurd (let e : None ≡ Some spot = found in cc)

pub ahead-open : (grid : Grid) (spot next : Spot) → open_ahead grid spot ≡ Some next → is_open grid next.x next.y ≡ true
ahead-open grid spot next found = spot-open grid spot.face (ahead spot.face (spot_cell spot)) next found

-- ---- owners

-- a shut cell stays nobody's where an open one is painted
still-shut : (grid : Grid) (owners : List ℕ) (at cell : Cell) (owner : ℕ) → at.x < 64 → cell.x < 64
    → is_open grid at.x at.y ≡ true → is_open grid cell.x cell.y ≡ false → owner_of owners cell ≡ 32
    → owner_of (painted owners at owner) cell ≡ 32
still-shut grid owners at cell owner near close free shut here =
    elim (same_cell cell at) as (λ v. same_cell cell at ≡ v → owner_of (painted owners at owner) cell ≡ 32) [
      | true ↦ λ same.
          let parts = and_parts (cell.x == at.x) (cell.y == at.y) same in
          let column : cell.x ≡ at.x = grind (arith, nat_tests, parts) in
          let row : cell.y ≡ at.y = grind (arith, nat_tests, parts) in
          absurd (let e : true ≡ false = sym free ∙ rw (← column, ← row) shut in cc)
      | false ↦ λ other. get_or-set_other owners (cell_place at) (cell_place cell) owner 32 (apart cell at close near other) ∙ here
    ] refl

-- an open cell is painted
pub owners-painted : (grid : Grid) (owners : List ℕ) (at : Cell) (owner : ℕ) → at.x < 64 → is_open grid at.x at.y ≡ true → owner ≤ 32 → AreOwners grid owners → AreOwners grid (painted owners at owner)
owners-painted grid owners at owner near free few are = record {
  whole = length-set owners (cell_place at) owner ∙ are.whole;
  known = owners-set owners (cell_place at) owner are.known few;
  shut = λ x y close shut. still-shut grid owners at (record { x = x; y = y }) owner near close free shut (are.shut x y close shut);
}

-- cells are wiped
pub owners-wiped : (grid : Grid) (pickups : List PickupSpot) (owners : List ℕ) → AreOwners grid owners → AreOwners grid (wiped pickups owners)
unfolding wiped
owners-wiped grid [] owners are = are
owners-wiped grid (p ∷ pickups) owners are = owners-wiped grid pickups (painted owners (pickup_cell p) 32) (record {
  whole = length-set owners (cell_place (pickup_cell p)) 32 ∙ are.whole;
  known = owners-set owners (cell_place (pickup_cell p)) 32 are.known (omega arith);
  shut = λ x y close shut. set-kept owners (cell_place (pickup_cell p)) (cell_place (record { x = x; y = y })) (are.shut x y close shut);
})

-- cells ahead are painted
next-owners : (grid : Grid) (n cells : ℕ) (owners : List ℕ) → IsGrid grid → n ≤ 32
    → ((spot : Spot) (l : List ℕ) → AreOwners grid l → AreOwners grid (painted_ahead grid n cells spot l)) → AreOwners grid owners
    → (o : Option Spot) → ((next : Spot) → o ≡ Some next → is_open grid next.x next.y ≡ true)
    → AreOwners grid (option_map_or (λ next. painted_ahead grid n cells next (painted owners (spot_cell next) n)) o owners)
next-owners grid n cells owners sound few more are None free = are
next-owners grid n cells owners sound few more are (Some next) free =
    more next (painted owners (spot_cell next) n)
    (owners-painted grid owners (spot_cell next) n (is_open-near grid next.x next.y sound (free next refl)).0 (free next refl) few are)

pub owners-ahead : (grid : Grid) (n cells : ℕ) (spot : Spot) (owners : List ℕ) → IsGrid grid → n ≤ 32 → AreOwners grid owners → AreOwners grid (painted_ahead grid n cells spot owners)
unfolding painted_ahead
owners-ahead grid n zero spot owners sound few are = are
owners-ahead grid n (suc cells) spot owners sound few are =
    next-owners grid n cells owners sound few (λ s l h. owners-ahead grid n cells s l sound few h) are (open_ahead grid spot) (ahead-open grid spot)

-- homes are painted
owners-settled : (grid : Grid) (n : ℕ) (homes : List Spot) (owners : List ℕ) → IsGrid grid → n + length homes ≤ 32 → AllByRecursion (Stands grid) homes → AreOwners grid owners → AreOwners grid (settled n homes owners)
unfolding settled
owners-settled grid n [] owners sound few stand are = are
owners-settled grid n (h ∷ hs) owners sound few stand are =
    owners-settled grid (n + 1) hs (painted owners (spot_cell h) n) sound (omega (arith, few)) stand.1
    (owners-painted grid owners (spot_cell h) n (is_open-near grid h.x h.y sound stand.0).0 stand.0 (omega (arith, few)) are)

all_stand : (grid : Grid) (homes : List Spot) → list_all (λ (c : Cell). is_open grid c.x c.y) (map spot_cell homes) ≡ true → AllByRecursion (Stands grid) homes
all_stand grid [] free = tt
all_stand grid (h ∷ hs) free =
    let parts = and_parts (is_open grid h.x h.y) (list_all (λ (c : Cell). is_open grid c.x c.y) (map spot_cell hs)) free in
    (parts.0, all_stand grid hs parts.1)

-- the players stand as a match begins
pub homes-stand : (layout : Layout) → IsLayout layout → AllByRecursion (Stands layout.grid) layout.players
homes-stand layout possible = all_stand layout.grid layout.players
    (and_parts _ _ (sym (list_all-append (λ (c : Cell). is_open layout.grid c.x c.y) (map pickup_cell layout.pickups) (map spot_cell layout.players)) ∙ possible.free)).1

-- in cells of their own
pub homes-apart : (layout : Layout) → IsLayout layout → IsDistinct same_cell (map spot_cell layout.players)
homes-apart layout possible = distinct-back (map pickup_cell layout.pickups) (map spot_cell layout.players) possible.apart

-- whose the cells are then
pub owners-opening : (layout : Layout) → IsLayout layout → AreOwners layout.grid (opening layout).owners
owners-opening layout possible =
    owners-settled layout.grid 0 layout.players _ possible.grid (let few = possible.players.1 in omega (arith, few)) (homes-stand layout possible)
    (record { whole = length-unowned; known = owners-unowned; shut = λ x y close shut. owner_of-unowned (record { x = x; y = y }) })

-- ---- players

all-set : {X : Type 0} (P : X → Type 0) (xs : List X) (i : ℕ) (y : X) → AllByRecursion P xs → P y → AllByRecursion P (set xs i y)
all-set P [] i y h here = tt
all-set P (x ∷ xs) zero y h here = (here, h.1)
all-set P (x ∷ xs) (suc i) y h here = (h.0, all-set P xs i y h.1 here)

-- one comes to an open spot
pub stand-set : (grid : Grid) (players : List Spot) (n : ℕ) (next : Spot) → AllByRecursion (Stands grid) players → is_open grid next.x next.y ≡ true → AllByRecursion (Stands grid) (set players n next)
stand-set grid players n next stand free = all-set (Stands grid) players n next stand free

map-set : (players : List Spot) (n : ℕ) (next : Spot) → map spot_cell (set players n next) ≡ set (map spot_cell players) n (spot_cell next)
map-set [] n next = refl
map-set (p ∷ ps) zero next = refl
map-set (p ∷ ps) (suc n) next = ap (λ (l : List Cell). spot_cell p ∷ l) (map-set ps n next)

same_cell-sym : (a b : Cell) → same_cell a b ≡ false → same_cell b a ≡ false
same_cell-sym a b other = grind (arith, nat_tests, other)

distinct-set : (cells : List Cell) (n : ℕ) (c : Cell) → IsDistinct same_cell cells → AllByRecursion (λ d. same_cell c d ≡ false) cells → IsDistinct same_cell (set cells n c)
unfolding IsDistinct
distinct-set [] n c other free = tt
distinct-set (d ∷ cells) zero c other free = (free.1, other.1)
distinct-set (d ∷ cells) (suc n) c other free =
    (all-set (λ e. same_cell d e ≡ false) cells n c other.0 (same_cell-sym c d free.0), distinct-set cells n c other.1 free.1)

unheld : (players : List Spot) (c : Cell) → list_any (λ p. same_cell c (spot_cell p)) players ≡ false → AllByRecursion (λ d. same_cell c d ≡ false) (map spot_cell players)
unheld [] c free = tt
unheld (p ∷ ps) c free =
    let parts = or_parts (same_cell c (spot_cell p)) (list_any (λ q. same_cell c (spot_cell q)) ps) free in
    (parts.0, unheld ps c parts.1)

-- where nobody stands
pub apart-set : (players : List Spot) (n : ℕ) (next : Spot) → IsDistinct same_cell (map spot_cell players) → is_held players (spot_cell next) ≡ false → IsDistinct same_cell (map spot_cell (set players n next))
unfolding is_held
apart-set players n next other free =
    subst (λ (l : List Cell). IsDistinct same_cell l) (sym (map-set players n next))
    (distinct-set (map spot_cell players) n (spot_cell next) other (unheld players (spot_cell next) free))

-- one turns in the cell where they stand
stays-set : (players : List Spot) (n : ℕ) (old new : Spot) → slice_get players n ≡ Some old → spot_cell new ≡ spot_cell old → map spot_cell (set players n new) ≡ map spot_cell players
stays-set [] n old new there stays = refl
stays-set (p ∷ ps) zero old new there stays =
    let is : p ≡ old = ap (λ (o : Option Spot). unwrap_or o p) there in
    ap (λ (c : Cell). c ∷ map spot_cell ps) (stays ∙ sym (ap spot_cell is))
stays-set (p ∷ ps) (suc n) old new there stays = ap (λ (l : List Cell). spot_cell p ∷ l) (stays-set ps n old new there stays)

pub apart-stays : (players : List Spot) (n : ℕ) (old new : Spot) → IsDistinct same_cell (map spot_cell players) → slice_get players n ≡ Some old → spot_cell new ≡ spot_cell old → IsDistinct same_cell (map spot_cell (set players n new))
apart-stays players n old new other there stays = subst (λ (l : List Cell). IsDistinct same_cell l) (sym (stays-set players n old new there stays)) other

stands-at : (grid : Grid) (players : List Spot) (n : ℕ) (old : Spot) → AllByRecursion (Stands grid) players → slice_get players n ≡ Some old → Stands grid old
stands-at grid [] n old stand there = absurd (let e : None ≡ Some old = there in cc)
stands-at grid (p ∷ ps) zero old stand there =
    let is : p ≡ old = ap (λ (o : Option Spot). unwrap_or o p) there in
    subst (λ (s : Spot). Stands grid s) is stand.0
stands-at grid (p ∷ ps) (suc n) old stand there = stands-at grid ps n old stand.1 there

pub stand-stays : (grid : Grid) (players : List Spot) (n : ℕ) (old new : Spot) → AllByRecursion (Stands grid) players → slice_get players n ≡ Some old → spot_cell new ≡ spot_cell old → AllByRecursion (Stands grid) (set players n new)
stand-stays grid players n old new stand there stays =
    let here = stands-at grid players n old stand there in
    all-set (Stands grid) players n new stand (subst (λ (c : Cell). is_open grid c.x c.y ≡ true) (sym stays) here)
