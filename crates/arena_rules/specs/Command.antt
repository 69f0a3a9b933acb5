-- What commands do to a world.
use Rattle.std.specs.Prelude.{ℕ, ◌+◌, ◌-◌, ◌==◌, ◌||◌, nat_le, if◌then◌else◌, [], ◌∷◌, ◌++◌, length, Option, Some, None, slice_get, slice_set}
use Rattle.game_trait.specs.declared.command.Act.{Act}
use Rattle.game_trait.specs.declared.command.Act.TheVariants.{Go, Left, Right, Shoot, Dash}
use Rattle.game_trait.specs.declared.command.Command.{Command}
use Rattle.match_setup.specs.Setup.{spot_cell}
use Rattle.arena_rules.specs.Player.{alive, turned_to, is_held}
use Rattle.arena_rules.specs.Pickup.{ready_kind, taken, given}
use Rattle.arena_rules.specs.Scene.{World}
use Rattle.match_setup.specs.declared.face.Face.{Face}
use Rattle.arena_rules.specs.declared.player.Body.{Body}
use Rattle.arena_rules.specs.declared.player.Player.{Player}
use Rattle.arena_rules.specs.declared.player.State.{State}
use Rattle.arena_rules.specs.declared.player.State.TheVariants.{Live, Dead}
use Rattle.match_setup.specs.declared.spot.Spot.{Spot}
use Rattle.game_trait.specs.declared.limits.TheConstants.{MOST_SHOTS}
use Rattle.arena_rules.specs.declared.limits.TheConstants.{REACH}
use Rattle.match_setup.specs.Facing.{turned_left, turned_right, open_ahead}

-- a player who is there and live, and the player's body
abbrev pub live_in : Player → State → Option (Player × Body)
live_in player (Live body) = Some (player, body)
live_in player (Dead wait) = None

-- the same of a player who may not be there
abbrev pub live_of : Option Player → Option (Player × Body)
live_of None = None
live_of (Some player) = live_in player player.state

-- a change of the world by a live player; nothing changes where there is none
abbrev pub by_live : World → Option (Player × Body) → (Player → Body → World) → World
by_live world None change = world
by_live world (Some (player, body)) change = change player body

-- the same by the player of this number
abbrev pub by_player : World → ℕ → (Player → Body → World) → World
by_player world number change = by_live world (live_of (slice_get world.players number)) change

-- the world with another player under this number
abbrev pub with_player : World → ℕ → Player → World
with_player world number player = record world { players = slice_set world.players number player }

-- the world after the player of this number turns
abbrev pub turned : World → ℕ → (Face → Face) → World
turned world number turn =
    by_player world number
    (λ player body. with_player world number (alive player (turned_to body (turn body.spot.face))))

-- the world after a player comes to the cell of this body, and takes what lies ready there
abbrev pub arrived : World → ℕ → Player → Body → World
arrived world number player body = record world {
  players = slice_set world.players number
      (given player body (ready_kind world.pickups (spot_cell body.spot)));
  pickups = taken world.pickups (spot_cell body.spot);
}

-- the world after a player goes to this spot, if there is one and no live player stands there
abbrev pub gone_to : World → ℕ → Player → Body → Option Spot → World
gone_to world number player body None = world
gone_to world number player body (Some spot) =
    if is_held world.players (spot_cell spot) then world
    else arrived world number player (record body { spot = spot })

-- the world after the player of this number goes one cell ahead
unfoldable pub gone : World → ℕ → World
gone world number =
    by_player world number
    (λ player body. gone_to world number player body (open_ahead world.grid body.spot))

-- the world after the player of this number shoots: a shot more where there is ammunition and
-- room for it among those that fly
abbrev pub fired : World → ℕ → Player → Body → World
fired world number player body =
    if (body.ammo == 0) || nat_le MOST_SHOTS (length world.shots) then world else record world {
      players =
          slice_set world.players number (alive player (record body { ammo = body.ammo - 1 }));
      shots = world.shots ++ record { owner = number; spot = body.spot; left = REACH } ∷ [];
    }

-- the same where that player is there and live
abbrev pub shot_by : World → ℕ → World
shot_by world number = by_player world number (fired world number)

-- the world after an act of the player of this number
abbrev pub acted : World → ℕ → Act → World
acted world number Go = gone world number
acted world number Left = turned world number turned_left
acted world number Right = turned world number turned_right
acted world number Shoot = shot_by world number
acted world number Dash = gone (gone world number) number

-- the world after a command
unfoldable pub applied : World → Command → World
applied world x = acted world x.player x.act
