-- Tests that tell of layouts and worlds of numerals whether they can be.
use Rattle.std.proofs.Common.{ℕ, ◌≤◌, [], ◌∷◌, lit<, lit≤}
use Rattle.std.specs.List.{IsDistinct}
use Rattle.std.proofs.lemmas.List.Elements.{All-nil, All-cons}
use Rattle.match_setup.specs.Ground.{Grid}
use Rattle.arena_rules.specs.World.{IsPlayer, ArePlayers, IsShot, AreShots, IsPickup, ArePickups, IsWorld}
use Rattle.match_setup.specs.Worked.{yard}
use Rattle.arena_rules.specs.Worked.{scene}
use Rattle.arena_rules.specs.declared.player.Player.{Player}
use Rattle.match_setup.proofs.Telling.{IsGrid-yard}

-- no shots and no pickups
pub no_shots : (grid : Grid) (count : ℕ) → AreShots grid count []
no_shots grid count = record { count = lit≤ tt; each = All-nil (IsShot grid count) }

pub no_pickups : (grid : Grid) → ArePickups grid []
unfolding IsDistinct
no_pickups grid = record { count = lit≤ tt; each = All-nil (IsPickup grid); apart = tt }

pub no_players : (grid : Grid) → ArePlayers grid []
unfolding IsDistinct
no_players grid = record { count = lit≤ tt; each = All-nil (IsPlayer grid); apart = tt }

-- a worked world of one player
pub IsWorld-one : (player : Player) → IsPlayer yard player → IsWorld (scene (player ∷ []) [] [])
unfolding IsDistinct
IsWorld-one player possible = record {
  grid = IsGrid-yard;
  players = record { count = lit≤ tt; each = All-cons (IsPlayer yard) player [] possible (All-nil (IsPlayer yard)); apart = (tt, tt) };
  shots = no_shots yard 1;
  pickups = no_pickups yard;
  time = lit< tt;
}
