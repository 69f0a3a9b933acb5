-- A world as contracts see it.
use Rattle.std.specs.Prelude.{ℕ, List}
use Rattle.match_setup.specs.Ground.{Grid}
use Rattle.arena_rules.specs.declared.pickup.Pickup.{Pickup}
use Rattle.arena_rules.specs.declared.player.Player.{Player}
use Rattle.arena_rules.specs.declared.shot.Shot.{Shot}

-- the ground, the players and the pickups in the order of their lines, the shots in the order in
-- which they were fired, and the time
pub record World : Type 0 where
  pub grid : Grid
  pub players : List Player
  pub shots : List Shot
  pub pickups : List Pickup
  pub time : ℕ
