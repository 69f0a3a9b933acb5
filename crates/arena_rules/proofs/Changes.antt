-- One player changed among the players.
use Rattle.std.proofs.Common.{◌≡◌, ℕ, zero, suc, ◌<◌, ◌≤◌, List, [], ◌∷◌, map, length, get_or, set, refl, ap, arith, take_all, length-set}
use Rattle.std.specs.List.{refill}
use Rattle.std.proofs.lemmas.List.{take-append-le, length-map}
use Rattle.arena_rules.specs.Player.{changed}
use Rattle.arena_rules.specs.declared.player.Player.{Player}

-- a change is a write of what it makes of the player there
pub changed-set : (players : List Player) (number : ℕ) (change : Player → Player) (d : Player) → number < length players
    → changed players number change ≡ set players number (change (get_or players number d))
unfolding changed
changed-set [] number change d there = absurd (omega arith)
changed-set (player ∷ players) zero change d there = refl
changed-set (player ∷ players) (suc number) change d there = ap (λ ps. player ∷ ps) (changed-set players number change d (omega (arith, there)))

-- no change adds a player or takes one away
pub length-changed : (players : List Player) (number : ℕ) (change : Player → Player) → length (changed players number change) ≡ length players
unfolding changed
length-changed [] number change = refl
length-changed (player ∷ players) zero change = refl
length-changed (player ∷ players) (suc number) change = ap (λ n. suc n) (length-changed players number change)

-- a slice that is written back whole
pub refill-same : {X : Type 0} (xs ys : List X) → length ys ≡ length xs → refill (length xs) xs ys ≡ ys
refill-same xs ys same =
    let below : length xs ≤ length ys = omega arith in
    let above : length ys ≤ length xs = omega arith in
    rw (take-append-le, take_all (length xs) ys above) refl

pub refill-set : {X : Type 0} (xs : List X) (i : ℕ) (x : X) → refill (length xs) xs (set xs i x) ≡ set xs i x
refill-set xs i x = refill-same xs (set xs i x) (length-set xs i x)

pub refill-map : {X : Type 0} (xs : List X) (f : X → X) → refill (length xs) xs (map f xs) ≡ map f xs
refill-map xs f = refill-same xs (map f xs) (length-map xs f)
