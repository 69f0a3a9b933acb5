use Rattle.std.proofs.Common.{ℕ, ◌≤◌, ◌==◌, arith}
use Rattle.game_trait.proofs.Counts.{times-most}
use Rattle.paint_rules.specs.Owners.{owned}
use Rattle.paint_rules.specs.World.{PaintWorld, IsPaintWorld}
use Rattle.paint_rules.proofs.laws.what_a_world_is.Goals as goal

few : (world : PaintWorld) (player : ℕ) → IsPaintWorld world → owned player world.owners ≤ 4096
few world player is =
    let most = times-most (λ o. o == player) world.owners in
    let whole = is.owners.whole in
    omega (arith, most, whole)

pub returns : goal.returns
returns c = record {
  grid = λ world is. is.grid;
  players = λ world is. (is.players, is.stand, is.apart);
  owners = λ world is. (is.owners.whole, is.owners.known, is.owners.shut);
  pickups = λ world is. (is.count, is.pickups);
  cells = few;
}
