-- Numbers of cells beside players and pickups: where a cell's number isn't among them, nobody and nothing is in the cell.
use Rattle.std.proofs.Common.{◌||◌, ◌≡◌, ◌==◌, ◌&&◌, ◌-◌, ℕ, zero, suc, Bool, not, true, false, None, Some, List, [], ◌∷◌, map, take, length, set, refl, sym, ap, ◌∙◌, arith}
use Rattle.std.specs.List.{list_any, list_all, prefix_len}
use Rattle.std.proofs.lemmas.Bool.{and_parts, or_parts, not-false}
use Rattle.std.proofs.lemmas.Bool.Decides.{nat_tests}
use Rattle.match_setup.specs.Setup.{Cell}
use Rattle.arena_rules.specs.Player.{place_in, same_place, stands_in, is_held, holder, is_live, is_live_state}
use Rattle.arena_rules.specs.Pickup.{lies_ready, ready_kind}
use Rattle.arena_rules.specs.Kept.{cell_number, place_number, seen_at}
use Rattle.arena_rules.specs.declared.player.Player.{Player}
use Rattle.arena_rules.specs.declared.player.State.{State}
use Rattle.arena_rules.specs.declared.player.State.TheVariants.{Live, Dead}
use Rattle.arena_rules.specs.declared.resting.Resting.{Resting}
use Rattle.arena_rules.proofs.Ready.{ready_kind-none}

-- what isn't in a list isn't at its front
pub list_any-take : {X : Type 0} (test : X → Bool) (xs : List X) (n : ℕ) → list_any test xs ≡ false → list_any test (take n xs) ≡ false
list_any-take test xs zero none = refl
list_any-take test [] (suc n) none = refl
list_any-take test (x ∷ xs) (suc n) none =
    let first : test x ≡ false = (or_parts (test x) (list_any test xs) none).0 in
    let rest : list_any test (take n xs) ≡ false = list_any-take test xs n (or_parts (test x) (list_any test xs) none).1 in
    rw (first, rest) refl

-- a player with another number stands elsewhere
elsewhere : (x y : ℕ) (state : State) → (place_number state == cell_number x y) ≡ false → same_place (Some (record { x = x; y = y })) (place_in state) ≡ false
elsewhere x y (Live body) other = grind (arith, nat_tests)
elsewhere x y (Dead wait) other = refl

-- where no player has the number of a cell, nobody stands there
pub is_held-unnumbered : (x y : ℕ) (players : List Player) → list_any (λ n. n == cell_number x y) (map (λ p. place_number p.state) players) ≡ false → is_held players (record { x = x; y = y }) ≡ false
unfolding is_held
is_held-unnumbered x y [] none = refl
is_held-unnumbered x y (p ∷ players) none =
    let parts = or_parts (place_number p.state == cell_number x y) (list_any (λ n. n == cell_number x y) (map (λ p. place_number p.state) players)) none in
    let first : same_place (Some (record { x = x; y = y })) (place_in p.state) ≡ false = elsewhere x y p.state parts.0 in
    let rest : list_any (stands_in (record { x = x; y = y })) players ≡ false = is_held-unnumbered x y players parts.1 in
    rw (first, rest) refl

-- where no element passes a test, all are in front of the first one that does
prefix_len-none : {X : Type 0} (test : X → Bool) (xs : List X) → list_any test xs ≡ false → prefix_len (λ x. not (test x)) xs ≡ length xs
prefix_len-none test [] none = refl
prefix_len-none test (x ∷ xs) none =
    let parts = or_parts (test x) (list_any test xs) none in
    let first : test x ≡ false = parts.0 in
    let rest : prefix_len (λ x. not (test x)) xs ≡ length xs = prefix_len-none test xs parts.1 in
    rw (first, rest) (omega arith)

-- where nobody stands in a cell, nobody is found there
pub holder-none : (players : List Player) (cell : Cell) → is_held players cell ≡ false → holder players cell ≡ None
unfolding is_held
holder-none players cell free =
    let past : prefix_len (λ p. not (stands_in cell p)) players ≡ length players = prefix_len-none (stands_in cell) players free in
    rw past (grind (arith, nat_tests))

-- a player with the number of a cell is live
with_number : (state : State) → (place_number state == 65535) ≡ false → is_live_state state ≡ true
with_number (Live body) other = refl
with_number (Dead wait) other = absurd (let e : true ≡ false = other in cc)

-- where all players have the number of a cell, all are live
pub are_live-numbered : (players : List Player) → list_any (λ n. n == 65535) (map (λ p. place_number p.state) players) ≡ false → list_all is_live players ≡ true
are_live-numbered [] none = refl
are_live-numbered (p ∷ players) none =
    let parts = or_parts (place_number p.state == 65535) (list_any (λ n. n == 65535) (map (λ p. place_number p.state) players)) none in
    let first : is_live p ≡ true = with_number p.state parts.0 in
    let rest : list_all is_live players ≡ true = are_live-numbered players parts.1 in
    rw (first, rest) refl

-- a pickup with another number lies elsewhere
lies_elsewhere : (a b wait x y : ℕ) → (cell_number a b == cell_number x y) ≡ false → (((x == a) && (y == b)) && (wait == 0)) ≡ false
lies_elsewhere a b wait x y other = grind (arith, nat_tests)

-- where no pickup has the number of a cell, nothing lies there
nothing_lies : (x y beats : ℕ) (pickups : List Resting)
    → list_any (λ n. n == cell_number x y) (map (λ p. cell_number p.place.x p.place.y) pickups) ≡ false
    → list_any (lies_ready (record { x = x; y = y })) (map (seen_at beats) pickups) ≡ false
nothing_lies x y beats [] none = refl
nothing_lies x y beats (p ∷ pickups) none =
    let parts = or_parts (cell_number p.place.x p.place.y == cell_number x y) (list_any (λ n. n == cell_number x y) (map (λ p. cell_number p.place.x p.place.y) pickups)) none in
    let first : lies_ready (record { x = x; y = y }) (seen_at beats p) ≡ false = lies_elsewhere p.place.x p.place.y (p.until - beats) x y parts.0 in
    let rest : list_any (lies_ready (record { x = x; y = y })) (map (seen_at beats) pickups) ≡ false = nothing_lies x y beats pickups parts.1 in
    rw (first, rest) refl

pub ready_kind-unnumbered : (x y beats : ℕ) (pickups : List Resting)
    → list_any (λ n. n == cell_number x y) (map (λ p. cell_number p.place.x p.place.y) pickups) ≡ false
    → ready_kind (map (seen_at beats) pickups) (record { x = x; y = y }) ≡ None
ready_kind-unnumbered x y beats pickups none = ready_kind-none (map (seen_at beats) pickups) (record { x = x; y = y }) (nothing_lies x y beats pickups none)

-- a number written in the place of one at the front
pub take-set : {X : Type 0} (xs : List X) (i n : ℕ) (x : X) → take n (set xs i x) ≡ set (take n xs) i x
take-set xs i zero x = refl
take-set [] i (suc n) x = refl
take-set (y ∷ xs) zero (suc n) x = refl
take-set (y ∷ xs) (suc i) (suc n) x = ap (λ l. y ∷ l) (take-set xs i n x)

-- a live player put among live ones
list_all-set : {X : Type 0} (test : X → Bool) (xs : List X) (i : ℕ) (x : X) → list_all test xs ≡ true → test x ≡ true → list_all test (set xs i x) ≡ true
list_all-set test [] i x all this = refl
list_all-set test (y ∷ xs) zero x all this = rw (this, (and_parts (test y) (list_all test xs) all).1) refl
list_all-set test (y ∷ xs) (suc i) x all this =
    let parts = and_parts (test y) (list_all test xs) all in
    let first : test y ≡ true = parts.0 in
    let rest : list_all test (set xs i x) ≡ true = list_all-set test xs i x parts.1 this in
    rw (first, rest) refl

pub are_live-put : (players : List Player) (number : ℕ) (player : Player) (may_be_dead live : Bool)
    → live ≡ is_live player → (may_be_dead ≡ false → list_all is_live players ≡ true)
    → (may_be_dead || not live) ≡ false → list_all is_live (set players number player) ≡ true
are_live-put players number player may_be_dead live is were none =
    let parts = or_parts may_be_dead (not live) none in
    list_all-set is_live players number player (were parts.0) (sym is ∙ not-false live parts.1)
