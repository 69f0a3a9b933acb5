-- The dead return one after the other.
use Rattle.std.proofs.Common.{◌≡◌, ℕ, pos, true, ◌+◌, ◌<◌, ◌≤◌, List, [], ◌∷◌, ◌++◌, length, take, drop, get_or, set, refl, sym, ap, ◌∙◌, arith, take_all, append_assoc}
use Rattle.std.proofs.lemmas.Grind.{take-set_at}
use Rattle.std.proofs.lemmas.List.{append-nil, drop_more, drop-set-lt, set-get_or, take-append-drop, drop_all}
use Rattle.std.specs.List.{list_all}
use Rattle.std.proofs.lemmas.Bool.{and_parts}
use Rattle.arena_rules.specs.Beat.{returned, returns}
use Rattle.arena_rules.specs.Player.{is_live, is_live_state}
use Rattle.match_setup.specs.declared.face.Face.TheVariants.{N}
use Rattle.arena_rules.specs.declared.player.Player.{Player}
use Rattle.arena_rules.specs.declared.player.State.{State}
use Rattle.arena_rules.specs.declared.player.State.TheVariants.{Live, Dead}

-- one more player
returns-cons : (before after : List Player) (player : Player) → returns before (player ∷ after) ≡ returns (before ++ returned (before ++ player ∷ after) player ∷ []) after
unfolding returns
returns-cons before after player = refl

-- the next player returns among those before and those after
pub returns-next : (players : List Player) (number : ℕ) (d : Player) → number < length players
    → returns (take (number + 1) (set players number (returned players (get_or players number d)))) (drop (number + 1) (set players number (returned players (get_or players number d))))
    ≡ returns (take number players) (drop number players)
returns-next players number d there =
    let player : Player = get_or players number d in
    let behind : drop number players ≡ player ∷ drop (number + 1) players = drop_more players number d there in
    let whole : take number players ++ player ∷ drop (number + 1) players ≡ players = ap (λ l. take number players ++ l) (sym behind) ∙ take-append-drop number players in
    let front : take (number + 1) (set players number (returned players player)) ≡ take number players
    ++ returned players player ∷ [] = take-set_at players number (number + 1) (returned players player) refl
    there in
    let back : drop (number + 1) (set players number (returned players player)) ≡ drop (number + 1) players = drop-set-lt (number + 1) players number (returned players player) (omega arith) in
    rw (front, back)
    (sym (ap (λ l. returns (take number players) l) behind
    ∙ returns-cons (take number players) (drop (number + 1) players) player
    ∙ ap (λ l. returns (take number players ++ returned l player ∷ []) (drop (number + 1) players)) whole))

-- a live player stays as it is
returned-live : (players : List Player) (player : Player) (state : State) → player.state ≡ state → is_live_state state ≡ true → returned players player ≡ player
unfolding returned
returned-live players player (Live body) is live = rw is refl
returned-live players player (Dead wait) is live = absurd cc

-- where all players are live nobody returns
returns-behind : (before after : List Player) → list_all is_live after ≡ true → returns before after ≡ before ++ after
unfolding returns
returns-behind before [] live = sym (append-nil before)
returns-behind before (player ∷ after) live =
    let parts = and_parts (is_live player) (list_all is_live after) live in
    ap (λ p. returns (before ++ p ∷ []) after) (returned-live (before ++ player ∷ after) player player.state refl parts.0)
    ∙ returns-behind (before ++ player ∷ []) after parts.1
    ∙ append_assoc before (player ∷ []) after

pub returns-live : (players : List Player) → list_all is_live players ≡ true → returns [] players ≡ players
returns-live players live = returns-behind [] players live

-- a live player stays as it is among the players
pub returned-stays : (players : List Player) (number : ℕ) (d : Player) → is_live (get_or players number d) ≡ true → set players number (returned players (get_or players number d)) ≡ players
returned-stays players number d live =
    let player : Player = get_or players number d in
    ap (set players number) (returned-live players player player.state refl live) ∙ set-get_or players number d

-- no player is left
pub returns-all : (players : List Player) (number : ℕ) → length players ≤ number → returns (take number players) (drop number players) ≡ players
unfolding returns
returns-all players number past = rw (take_all number players past, drop_all number players past) refl

-- what stands past a list's end, in the words of the goals
abbrev pub nobody : Player
nobody = record { home = record { x = 0; y = 0; face = N }; score = pos 0; state = Dead 0 }
