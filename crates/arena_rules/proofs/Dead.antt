-- The players of a world stay so while the dead wait and return.
use Rattle.std.proofs.Common.{◌≡◌, ◌==◌, ℕ, ◌+◌, ◌-◌, ◌≤◌, ◌&&◌, not, true, false, if◌then◌else◌, Some, List, [], ◌∷◌, ◌++◌, length, set, slice_get}
use Rattle.std.proofs.Common.{refl, sym, ◌∙◌, subst, arith, length-append, append_assoc, append-nil}
use Rattle.std.proofs.lemmas.Bool.{not-true, and_parts}
use Rattle.std.proofs.Math.Seq.{set-append_seam}
use Rattle.match_setup.specs.Ground.{Grid}
use Rattle.match_setup.specs.Setup.{spot_cell}
use Rattle.arena_rules.specs.Player.{alive, body_at_home, is_held}
use Rattle.arena_rules.specs.Beat.{returned, returned_from, returns}
use Rattle.arena_rules.specs.World.{IsState, IsPlayer, ArePlayers}
use Rattle.arena_rules.specs.declared.player.Player.{Player}
use Rattle.arena_rules.specs.declared.player.State.{State}
use Rattle.arena_rules.specs.declared.player.State.TheVariants.{Live, Dead}
use Rattle.arena_rules.proofs.Apart.{ArePlayers-set, ArePlayers-stayed, IsPlayer-alive, player_at, unheld, nowhere_held}

-- a player who comes home
home-kept : (grid : Grid) (player : Player) → IsPlayer grid player → IsPlayer grid (alive player (body_at_home player.home))
home-kept grid player possible = IsPlayer-alive grid player (body_at_home player.home) possible (record { free = possible.home; health = (omega arith, omega arith); ammo = omega arith })

-- the players after one of them waited or returned
returned_from-kept : (grid : Grid) (players : List Player) (number : ℕ) (player : Player) (state : State)
    → ArePlayers grid players → slice_get players number ≡ Some player → player.state ≡ state
    → ArePlayers grid (set players number (returned_from players player state))
returned_from-kept grid players number player (Live body) sound there is = ArePlayers-stayed grid players number player player sound there (player_at grid players number player sound there) refl
returned_from-kept grid players number player (Dead wait) sound there is =
    let possible : IsPlayer grid player = player_at grid players number player sound there in
    let short : wait ≤ 10 = let P : State → Type 0 = λ s. IsState grid s in subst P is possible.state in
    elim ((wait - 1 == 0) && not (is_held players (spot_cell player.home))) as
    (λ v. ((wait - 1 == 0) && not (is_held players (spot_cell player.home))) ≡ v
    → ArePlayers grid (set players number
    (if v then alive player (body_at_home player.home) else record player { state = Dead (wait - 1) }))) [
      | true ↦ λ free. ArePlayers-set grid players number (alive player (body_at_home player.home)) sound
          (home-kept grid player possible) (unheld players (spot_cell player.home) (not-true _ (and_parts _ _ free).1))
      | false ↦ λ _. ArePlayers-set grid players number (record player { state = Dead (wait - 1) }) sound
          (record { home = possible.home; score = possible.score; state = omega (arith, short) }) (nowhere_held players)
    ] refl

-- the player behind others
player_behind : (before after : List Player) (player : Player) → slice_get (before ++ player ∷ after) (length before) ≡ Some player
player_behind [] after player = refl
player_behind (p ∷ before) after player = player_behind before after player

returned-kept : (grid : Grid) (before after : List Player) (player : Player)
    → ArePlayers grid (before ++ player ∷ after)
    → ArePlayers grid ((before ++ returned (before ++ player ∷ after) player ∷ []) ++ after)
unfolding returned
returned-kept grid before after player sound =
    let P : List Player → Type 0 = λ players. ArePlayers grid players in
    subst P (set-append_seam before player after _ ∙ sym (append_assoc before (returned_from (before ++ player ∷ after) player player.state ∷ []) after))
    (returned_from-kept grid (before ++ player ∷ after) (length before) player player.state sound (player_behind before after player) refl)

-- the players in order
pub returns-kept : (grid : Grid) (before after : List Player) → ArePlayers grid (before ++ after) → ArePlayers grid (returns before after)
unfolding returns
returns-kept grid before [] sound = let P : List Player → Type 0 = λ players. ArePlayers grid players in subst P (append-nil before) sound
returns-kept grid before (player ∷ after) sound = returns-kept grid (before ++ returned (before ++ player ∷ after) player ∷ []) after (returned-kept grid before after player sound)

-- nobody is added or taken away
pub length-returns : (before after : List Player) → length (returns before after) ≡ length before + length after
unfolding returns
length-returns before [] = omega arith
length-returns before (player ∷ after) =
    length-returns (before ++ returned (before ++ player ∷ after) player ∷ []) after
    ∙ omega (arith, length-append before (returned (before ++ player ∷ after) player ∷ []))
