-- The players of the arena: each has a home and a score, and is live or dead.
use Rattle.std.specs.Prelude.{ℕ, zero, suc, ◌-◌, ℤ, pos, ◌+ℤ◌, ◌-ℤ◌, int_lt, Bool, true, false, ◌==◌, if◌then◌else◌, List, [], ◌∷◌, Option, Some, None, position}
use Rattle.std.specs.List.{list_any}
use Rattle.match_setup.specs.Setup.{Cell, same_cell, spot_cell}
use Rattle.match_setup.specs.declared.face.Face.{Face}
use Rattle.match_setup.specs.declared.spot.Spot.{Spot}
use Rattle.arena_rules.specs.declared.player.Body.{Body}
use Rattle.arena_rules.specs.declared.player.Player.{Player}
use Rattle.arena_rules.specs.declared.player.State.{State}
use Rattle.arena_rules.specs.declared.player.State.TheVariants.{Live, Dead}
use Rattle.arena_rules.specs.declared.limits.TheConstants.{MOST_HEALTH, AMMO_AT_HOME, BEATS_DEAD, GREATEST_SCORE, LEAST_SCORE}

-- a live player with this body
abbrev pub alive : Player → Body → Player
alive player body = record player { state = Live body }

-- a body with another facing
abbrev pub turned_to : Body → Face → Body
turned_to body face = record body { spot = record body.spot { face = face } }

-- who comes home stands there with the home's facing, full health and some ammunition
abbrev pub body_at_home : Spot → Body
body_at_home home = record { spot = home; health = MOST_HEALTH; ammo = AMMO_AT_HOME }

-- a player as the match begins: live at home, with score 0
abbrev pub opening_player : Spot → Player
opening_player home = record { home = home; score = pos 0; state = Live (body_at_home home) }

-- the cell in which a live player stands; a dead one stands nowhere
abbrev pub place_in : State → Option Cell
place_in (Live body) = Some (spot_cell body.spot)
place_in (Dead wait) = None

-- that of a player
abbrev pub place : Player → Option Cell
place player = place_in player.state

-- two places are one cell
abbrev pub same_place : Option Cell → Option Cell → Bool
same_place (Some a) (Some b) = same_cell a b
same_place (Some a) None = false
same_place None b = false

-- the player is live and stands in this cell
abbrev pub stands_in : Cell → Player → Bool
stands_in cell player = same_place (Some cell) (place player)

-- a live player stands in this cell
unfoldable pub is_held : List Player → Cell → Bool
is_held players cell = list_any (stands_in cell) players

-- the number of the live player who stands in this cell
abbrev pub holder : List Player → Cell → Option ℕ
holder players cell = position (stands_in cell) players

-- a player is live
abbrev pub is_live_state : State → Bool
is_live_state (Live body) = true
is_live_state (Dead wait) = false

abbrev pub is_live : Player → Bool
is_live player = is_live_state player.state

-- a score after a gain and after a loss: at its bounds it stands still
abbrev pub gained : ℤ → ℤ
gained score = if int_lt score GREATEST_SCORE then score +ℤ pos 1 else score

abbrev pub lost : ℤ → ℤ
lost score = if int_lt LEAST_SCORE score then score -ℤ pos 1 else score

abbrev pub with_gain : Player → Player
with_gain player = record player { score = gained player.score }

abbrev pub with_loss : Player → Player
with_loss player = record player { score = lost player.score }

-- a player whom a shot hits: the health falls by one, and where it is then 0 the player is dead
-- and waits
abbrev pub struck_state : State → State
struck_state (Live body) = let health = body.health - 1 in
    if health == 0 then Dead BEATS_DEAD else Live (record body { health = health })
struck_state (Dead wait) = Dead wait

abbrev pub struck : Player → Player
struck player = record player { state = struck_state player.state }

-- the players with the one of this number changed, where there is one
unfoldable pub changed : List Player → ℕ → (Player → Player) → List Player
changed [] number change = []
changed (player ∷ players) zero change = change player ∷ players
changed (player ∷ players) (suc number) change = player ∷ changed players number change
