-- What a shot that hits does to the players.
use Rattle.std.proofs.Common.{◌≡◌, ℕ, ◌<◌, true, false, List, length, get_or, set, refl, sym, ap, ◌∙◌, if◌then◌else◌, eq-eqb, length-set, get_or-set_same, arith}
use Rattle.std.proofs.lemmas.Bool.{ne_eqb}
use Rattle.std.proofs.lemmas.Option.{slice_get-get_or}
use Rattle.std.specs.Option.{option_map_or}
use Rattle.arena_rules.specs.Beat.{hit, scored, is_live_at}
use Rattle.arena_rules.specs.Player.{changed, is_live, struck, with_gain, with_loss}
use Rattle.arena_rules.specs.declared.player.Player.{Player}
use Rattle.arena_rules.proofs.Changes.{changed-set}

-- the owner who is hit loses
pub scored-own : (players : List Player) (owner killed : ℕ) (d : Player) → owner ≡ killed → owner < length players
    → set players owner (with_loss (get_or players owner d)) ≡ scored players owner killed
scored-own players owner killed d same there = sym (ap (λ b. changed players owner (if b then with_loss else with_gain)) (eq-eqb owner killed same) ∙ changed-set players owner with_loss d there)

-- another one gains
pub scored-other : (players : List Player) (owner killed : ℕ) (d : Player) → (owner ≡ killed → ⊥)
    → owner < length players → set players owner (with_gain (get_or players owner d)) ≡ scored players owner killed
scored-other players owner killed d other there = sym (ap (λ b. changed players owner (if b then with_loss else with_gain)) (ne_eqb owner killed other) ∙ changed-set players owner with_gain d there)

-- the player of a number, after a write there
live_after : (players : List Player) (number : ℕ) (player : Player) → number < length players → is_live_at (set players number player) number ≡ is_live player
live_after players number player there =
    let within : number < length (set players number player) = omega (arith, length-set players number player, there) in
    ap (λ o. option_map_or is_live o false) (slice_get-get_or (set players number player) number player within) ∙ ap is_live (get_or-set_same players number player player there)

-- a hit after which the player is live
pub hit-live : (players : List Player) (owner number : ℕ) (d : Player) → number < length players
    → is_live (struck (get_or players number d)) ≡ true
    → set players number (struck (get_or players number d)) ≡ hit players owner number
unfolding hit
hit-live players owner number d there live =
    let write : changed players number struck ≡ set players number (struck (get_or players number d)) = changed-set players number struck d there in
    rw (write, live_after players number (struck (get_or players number d)) there, live) refl

-- a hit after which the player is dead
pub hit-dead : (players : List Player) (owner number : ℕ) (d : Player) → number < length players
    → is_live (struck (get_or players number d)) ≡ false
    → scored (set players number (struck (get_or players number d))) owner number ≡ hit players owner number
unfolding hit
hit-dead players owner number d there dead =
    let write : changed players number struck ≡ set players number (struck (get_or players number d)) = changed-set players number struck d there in
    rw (write, live_after players number (struck (get_or players number d)) there, dead) refl
