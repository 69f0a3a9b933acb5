-- The players of a world stay players of a world: whatever happens to one, no two live ones come to share a cell.
use Rattle.std.proofs.Common.{◌≡◌, ◌==◌, ℕ, zero, suc, ◌-◌, true, false, if◌then◌else◌, ◌⊎◌, inl, inr, ℤ, pos, neg_ℤ, ◌≤ℤ◌, Some, None, Option}
use Rattle.std.proofs.Common.{slice_get, List, [], ◌∷◌, map, length, set, refl, sym, ap, ◌∙◌, subst, arith, length-set, unwrap_or}
use Rattle.std.specs.List.{list_any, AllByRecursion, IsDistinct, All}
use Rattle.std.proofs.lemmas.Bool.Decides.{nat_tests}
use Rattle.std.proofs.lemmas.Int.{ints}
use Rattle.std.proofs.lemmas.List.{map-set}
use Rattle.std.proofs.lemmas.List.Elements.{All-set, All-get_or, All-cons, All-head, All-tail}
use Rattle.std.proofs.lemmas.Option.{slice_get_within, get_or_from_slice_get}
use Rattle.match_setup.specs.Ground.{Grid}
use Rattle.match_setup.specs.Setup.{Cell, spot_cell}
use Rattle.arena_rules.specs.Player.{alive, place, place_in, same_place, is_held, gained, lost, with_gain, with_loss, struck, struck_state, changed}
use Rattle.arena_rules.specs.Pickup.{given}
use Rattle.arena_rules.specs.World.{IsBody, IsState, IsPlayer, ArePlayers}
use Rattle.match_setup.specs.declared.pickup.Kind.{Kind}
use Rattle.match_setup.specs.declared.pickup.Kind.TheVariants.{Ammo, Heal, Gold}
use Rattle.arena_rules.specs.declared.player.Body.{Body}
use Rattle.arena_rules.specs.declared.player.Player.{Player}
use Rattle.arena_rules.specs.declared.player.State.{State}
use Rattle.arena_rules.specs.declared.player.State.TheVariants.{Live, Dead}
use Rattle.match_setup.proofs.Cells.{same_cell-symm, IsDistinct-set}
use Rattle.arena_rules.proofs.Changes.{length-changed}
use Rattle.tss_base.proofs.ListLaws.{any_map}

-- the order in which two places are compared doesn't matter
same_place-symm : (a b : Option Cell) → same_place a b ≡ same_place b a
same_place-symm (Some a) (Some b) = same_cell-symm a b
same_place-symm (Some a) None = refl
same_place-symm None (Some b) = refl
same_place-symm None None = refl

-- nowhere is no one's place
same_place-none : (a : Option Cell) → same_place a None ≡ false
same_place-none (Some a) = refl
same_place-none None = refl

nowhere : (places : List (Option Cell)) → list_any (same_place None) places ≡ false
nowhere [] = refl
nowhere (a ∷ places) = nowhere places

nowhere_else : (places : List (Option Cell)) → AllByRecursion (λ a. same_place None a ≡ false) places
nowhere_else [] = tt
nowhere_else (a ∷ places) = (refl, nowhere_else places)

-- one player is replaced by another who stands where nobody did, or nowhere
pub ArePlayers-set : (grid : Grid) (players : List Player) (number : ℕ) (player : Player) → ArePlayers grid players
    → IsPlayer grid player → list_any (same_place (place player)) (map place players) ≡ false
    → ArePlayers grid (set players number player)
ArePlayers-set grid players number player sound possible apart = record {
  count = let l : length (set players number player) ≡ length players = length-set players number player in omega (arith, l, sound.count);
  each = All-set (IsPlayer grid) players number player possible sound.each;
  apart = rw map-set (IsDistinct-set same_place same_place-symm (map place players) number (place player) sound.apart apart);
}

-- the place of a player who is there
place_at : (players : List Player) (number : ℕ) (player : Player) → slice_get players number ≡ Some player → set (map place players) number (place player) ≡ map place players
place_at [] number player there = refl
place_at (p ∷ players) zero player there = ap (λ o. place (unwrap_or o p) ∷ map place players) (sym there)
place_at (p ∷ players) (suc number) player there = ap (λ places. place p ∷ places) (place_at players number player there)

-- one player is replaced by another in the same place
pub ArePlayers-stayed : (grid : Grid) (players : List Player) (number : ℕ) (old new : Player) → ArePlayers grid players
    → slice_get players number ≡ Some old → IsPlayer grid new → place new ≡ place old
    → ArePlayers grid (set players number new)
ArePlayers-stayed grid players number old new sound there possible stays =
    let places : map place (set players number new) ≡ map place players = map-set place players number new ∙ ap (set (map place players) number) stays ∙ place_at players number old there in
    record {
      count = let l : length (set players number new) ≡ length players = length-set players number new in omega (arith, l, sound.count);
      each = All-set (IsPlayer grid) players number new possible sound.each;
      apart = rw places sound.apart;
    }

-- nobody stands in a cell that isn't held
pub unheld : (players : List Player) (cell : Cell) → is_held players cell ≡ false → list_any (same_place (Some cell)) (map place players) ≡ false
unfolding is_held
unheld players cell free = any_map (same_place (Some cell)) place players ∙ free

pub nowhere_held : (players : List Player) → list_any (same_place None) (map place players) ≡ false
nowhere_held players = nowhere (map place players)

-- a player who is there is one of a world
pub player_at : (grid : Grid) (players : List Player) (number : ℕ) (player : Player) → ArePlayers grid players → slice_get players number ≡ Some player → IsPlayer grid player
player_at grid players number player sound there =
    subst (IsPlayer grid) (get_or_from_slice_get players number player player there)
    (All-get_or (IsPlayer grid) players number player (slice_get_within players number player there) sound.each)

-- and so is the body of a live one
pub body_at : (grid : Grid) (player : Player) (body : Body) → IsPlayer grid player → player.state ≡ Live body → IsBody grid body
body_at grid player body possible live = subst (IsState grid) live possible.state

-- a player with another body
pub IsPlayer-alive : (grid : Grid) (player : Player) (body : Body) → IsPlayer grid player → IsBody grid body → IsPlayer grid (alive player body)
IsPlayer-alive grid player body possible stands = record { home = possible.home; score = possible.score; state = stands }

-- a gain and a loss leave the score in its range
gained_in_range : (score : ℤ) → neg_ℤ (pos 1000000) ≤ℤ score → score ≤ℤ pos 1000000 → (neg_ℤ (pos 1000000) ≤ℤ gained score) × (gained score ≤ℤ pos 1000000)
gained_in_range score low high = (grind (arith, ints), grind (arith, ints))

lost_in_range : (score : ℤ) → neg_ℤ (pos 1000000) ≤ℤ score → score ≤ℤ pos 1000000 → (neg_ℤ (pos 1000000) ≤ℤ lost score) × (lost score ≤ℤ pos 1000000)
lost_in_range score low high = (grind (arith, ints), grind (arith, ints))

pub IsPlayer-with_gain : (grid : Grid) (player : Player) → IsPlayer grid player → IsPlayer grid (with_gain player)
IsPlayer-with_gain grid player possible = record { home = possible.home; score = gained_in_range player.score possible.score.0 possible.score.1; state = possible.state }

pub IsPlayer-with_loss : (grid : Grid) (player : Player) → IsPlayer grid player → IsPlayer grid (with_loss player)
IsPlayer-with_loss grid player possible = record { home = possible.home; score = lost_in_range player.score possible.score.0 possible.score.1; state = possible.state }

-- a player who took a pickup
pub IsPlayer-given : (grid : Grid) (player : Player) (body : Body) (kind : Option Kind) → IsPlayer grid player → IsBody grid body → IsPlayer grid (given player body kind)
IsPlayer-given grid player body None possible stands = IsPlayer-alive grid player body possible stands
IsPlayer-given grid player body (Some Ammo) possible stands = IsPlayer-alive grid player _ possible (record { free = stands.free; health = stands.health; ammo = omega arith })
IsPlayer-given grid player body (Some Heal) possible stands =
    IsPlayer-alive grid player _ possible (record {
      free = stands.free;
      health = (omega (arith, stands.health.0), omega arith);
      ammo = stands.ammo;
    })
IsPlayer-given grid player body (Some Gold) possible stands = IsPlayer-alive grid (with_gain player) body (IsPlayer-with_gain grid player possible) stands

pub place-given : (player : Player) (body : Body) (kind : Option Kind) → place (given player body kind) ≡ Some (spot_cell body.spot)
place-given player body None = refl
place-given player body (Some Ammo) = refl
place-given player body (Some Heal) = refl
place-given player body (Some Gold) = refl

-- a player who was hit
IsState-struck : (grid : Grid) (state : State) → IsState grid state → IsState grid (struck_state state)
IsState-struck grid (Live body) possible =
    elim (body.health - 1 == 0) as (λ v. (body.health - 1 == 0) ≡ v → IsState grid (if v then Dead 10 else Live (record body { health = body.health - 1 }))) [
      | true ↦ λ _. omega arith
      | false ↦ λ left. record { free = possible.free; health = (grind (arith, nat_tests), omega (arith, possible.health.1)); ammo = possible.ammo }
    ] refl
IsState-struck grid (Dead wait) possible = possible

pub IsPlayer-struck : (grid : Grid) (player : Player) → IsPlayer grid player → IsPlayer grid (struck player)
IsPlayer-struck grid player possible = record { home = possible.home; score = possible.score; state = IsState-struck grid player.state possible.state }

-- a hit leaves a player in place, or nowhere
struck_place : (state : State) → (place_in (struck_state state) ≡ place_in state) ⊎ (place_in (struck_state state) ≡ None)
struck_place (Live body) = elim (body.health - 1 == 0) as
    (λ v. (place_in (if v then Dead 10 else Live (record body { health = body.health - 1 }))
    ≡ Some (spot_cell body.spot)) ⊎ (place_in (if v then Dead 10 else Live (record body { health = body.health - 1 }))
    ≡ None)) [ true ↦ inr refl | false ↦ inl refl ]
struck_place (Dead wait) = inl refl

-- a change of one player that leaves each player in place, or nowhere
pub record Keeps (grid : Grid) (change : Player → Player) : Type 0 where
  pub possible : (player : Player) → IsPlayer grid player → IsPlayer grid (change player)
  pub stays : (player : Player) → (place (change player) ≡ place player) ⊎ (place (change player) ≡ None)

pub Keeps-struck : (grid : Grid) → Keeps grid struck
Keeps-struck grid = record { possible = IsPlayer-struck grid; stays = λ player. struck_place player.state }

pub Keeps-with_gain : (grid : Grid) → Keeps grid with_gain
Keeps-with_gain grid = record { possible = IsPlayer-with_gain grid; stays = λ player. inl refl }

pub Keeps-with_loss : (grid : Grid) → Keeps grid with_loss
Keeps-with_loss grid = record { possible = IsPlayer-with_loss grid; stays = λ player. inl refl }

-- others stay apart from a place after such a change
others_apart : (grid : Grid) (players : List Player) (number : ℕ) (change : Player → Player) (a : Option Cell)
    → Keeps grid change → AllByRecursion (λ b. same_place a b ≡ false) (map place players)
    → AllByRecursion (λ b. same_place a b ≡ false) (map place (changed players number change))
unfolding changed
others_apart grid [] number change a keeps apart = tt
others_apart grid (player ∷ players) zero change a keeps apart = (
  elim (keeps.stays player) [
    | inl same ↦ ap (same_place a) same ∙ apart.0
    | inr none ↦ ap (same_place a) none
        ∙ same_place-none a
  ],
  apart.1,
)
others_apart grid (player ∷ players) (suc number) change a keeps apart = (apart.0, others_apart grid players number change a keeps apart.1)

-- and all stay apart
changed_apart : (grid : Grid) (players : List Player) (number : ℕ) (change : Player → Player) → Keeps grid change
    → IsDistinct same_place (map place players) → IsDistinct same_place (map place (changed players number change))
unfolding changed IsDistinct
changed_apart grid [] number change keeps apart = tt
changed_apart grid (player ∷ players) zero change keeps apart =
    let P : Option Cell → Type 0 = λ a. AllByRecursion (λ b. same_place a b ≡ false) (map place players) in
    (elim (keeps.stays player) [ inl same ↦ subst P (sym same) apart.0 | inr none ↦ subst P (sym none) (nowhere_else (map place players)) ], apart.1)
changed_apart grid (player ∷ players) (suc number) change keeps apart = (others_apart grid players number change (place player) keeps apart.0, changed_apart grid players number change keeps apart.1)

changed_each : (grid : Grid) (players : List Player) (number : ℕ) (change : Player → Player) → Keeps grid change → All (IsPlayer grid) players → All (IsPlayer grid) (changed players number change)
unfolding changed
changed_each grid [] number change keeps each = each
changed_each grid (player ∷ players) zero change keeps each =
    All-cons (IsPlayer grid) (change player) players
    (keeps.possible player (All-head (IsPlayer grid) player players each))
    (All-tail (IsPlayer grid) player players each)
changed_each grid (player ∷ players) (suc number) change keeps each =
    All-cons (IsPlayer grid) player (changed players number change) (All-head (IsPlayer grid) player players each)
    (changed_each grid players number change keeps (All-tail (IsPlayer grid) player players each))

-- the players after such a change
pub ArePlayers-changed : (grid : Grid) (players : List Player) (number : ℕ) (change : Player → Player) → Keeps grid change → ArePlayers grid players → ArePlayers grid (changed players number change)
ArePlayers-changed grid players number change keeps sound = record {
  count = omega (arith, length-changed players number change, sound.count);
  each = changed_each grid players number change keeps sound.each;
  apart = changed_apart grid players number change keeps sound.apart;
}
