-- One cell more that is painted in a row of them, and cells in reach.
use Rattle.std.proofs.Common.{◌≡◌, ℕ, zero, suc, ◌+◌, ◌<◌, ◌≤◌, ◌&&◌, nat_lt, not, true, false, T, nat_abs, ℤ, pos, negsuc, Some, None, List, ◌∷◌, length, drop, get_or, refl, sym, ap, ◌∙◌, arith}
use Rattle.std.specs.Int.Signed.{non_neg}
use Rattle.std.specs.Option.{option_map_or}
use Rattle.std.proofs.lemmas.Bool.{and_parts}
use Rattle.std.proofs.lemmas.Bool.Decides.{nat_tests}
use Rattle.std.proofs.lemmas.List.{drop_more, drop_all}
use Rattle.match_setup.specs.Ground.{Grid, IsGrid, is_walled, is_open, is_free}
use Rattle.match_setup.specs.Setup.{spot_cell, pickup_cell}
use Rattle.match_setup.specs.Facing.{open_ahead}
use Rattle.match_setup.specs.declared.pickup.PickupSpot.{PickupSpot}
use Rattle.match_setup.specs.declared.spot.Spot.{Spot}
use Rattle.paint_rules.specs.Owners.{painted}
use Rattle.paint_rules.specs.Scene.{settled}
use Rattle.paint_rules.specs.Command.{painted_ahead}
use Rattle.paint_rules.specs.Beat.{wiped}

-- an open cell has a column and a row below 64
pub is_open-near : (grid : Grid) (x y : ℕ) → IsGrid grid → is_open grid x y ≡ true → (x < 64) × (y < 64)
unfolding is_open
is_open-near grid x y sound free =
    let column = and_parts (nat_lt x grid.width) (nat_lt y grid.height && not (is_walled grid x y)) free in
    let row = and_parts (nat_lt y grid.height) (not (is_walled grid x y)) column.1 in
    let wide = sound.width in
    let high = sound.height in
    let left : x < grid.width = grind (arith, nat_tests, column) in
    let above : y < grid.height = grind (arith, nat_tests, row) in
    (omega (arith, left, wide), omega (arith, above, high))

-- the same of whole numbers that may be negative
pub is_free-near : (grid : Grid) (x y : ℤ) → IsGrid grid → true ≡ is_free grid x y → (T (non_neg x) × (nat_abs x < 64)) × (T (non_neg y) × (nat_abs y < 64))
is_free-near grid (pos x) (pos y) sound free = (let near = is_open-near grid x y sound (sym free) in ((tt, near.0), (tt, near.1)))
is_free-near grid (pos x) (negsuc y) sound free = absurd (let e : true ≡ false = free in cc)
is_free-near grid (negsuc x) y sound free = absurd (let e : true ≡ false = free in cc)

-- one pickup's cell more
wiped-cons : (p : PickupSpot) (ps : List PickupSpot) (owners : List ℕ) → wiped (p ∷ ps) owners ≡ wiped ps (painted owners (pickup_cell p) 32)
unfolding wiped
wiped-cons p ps owners = refl

pub wiped-next : (ps : List PickupSpot) (i : ℕ) (d : PickupSpot) (owners : List ℕ) → i < length ps
    → wiped (drop i ps) owners ≡ wiped (drop (i + 1) ps) (painted owners (pickup_cell (get_or ps i d)) 32)
wiped-next ps i d owners within = ap (λ l. wiped l owners) (drop_more ps i d within) ∙ wiped-cons (get_or ps i d) (drop (i + 1) ps) owners

pub wiped-all : (ps : List PickupSpot) (i : ℕ) (owners : List ℕ) → length ps ≤ i → wiped (drop i ps) owners ≡ owners
unfolding wiped
wiped-all ps i owners past = rw drop_all refl

-- one home more
settled-cons : (number : ℕ) (home : Spot) (homes : List Spot) (owners : List ℕ) → settled number (home ∷ homes) owners ≡ settled (number + 1) homes (painted owners (spot_cell home) number)
unfolding settled
settled-cons number home homes owners = refl

pub settled-next : (homes : List Spot) (i : ℕ) (d : Spot) (owners : List ℕ) → i < length homes
    → settled i (drop i homes) owners ≡ settled (i + 1) (drop (i + 1) homes)
    (painted owners (spot_cell (get_or homes i d)) i)
settled-next homes i d owners within = ap (λ l. settled i l owners) (drop_more homes i d within) ∙ settled-cons i (get_or homes i d) (drop (i + 1) homes) owners

pub settled-all : (homes : List Spot) (i n : ℕ) (owners : List ℕ) → length homes ≤ i → settled n (drop i homes) owners ≡ owners
unfolding settled
settled-all homes i n owners past = rw drop_all refl

-- one cell more ahead
pub painted_ahead-next : (grid : Grid) (number cells : ℕ) (spot next : Spot) (owners : List ℕ)
    → open_ahead grid spot ≡ Some next → painted_ahead grid number (suc cells) spot owners
    ≡ painted_ahead grid number cells next (painted owners (spot_cell next) number)
unfolding painted_ahead
painted_ahead-next grid number cells spot next owners found = ap (λ o. option_map_or (λ n. painted_ahead grid number cells n (painted owners (spot_cell n) number)) o owners) found

pub painted_ahead-stopped : (grid : Grid) (number cells : ℕ) (spot : Spot) (owners : List ℕ) → open_ahead grid spot ≡ None → painted_ahead grid number cells spot owners ≡ owners
unfolding painted_ahead
painted_ahead-stopped grid number zero spot owners shut = refl
painted_ahead-stopped grid number (suc cells) spot owners shut = ap (λ o. option_map_or (λ n. painted_ahead grid number cells n (painted owners (spot_cell n) number)) o owners) shut

pub painted_ahead-none : (grid : Grid) (number : ℕ) (spot : Spot) (owners : List ℕ) → painted_ahead grid number 0 spot owners ≡ owners
unfolding painted_ahead
painted_ahead-none grid number spot owners = refl
