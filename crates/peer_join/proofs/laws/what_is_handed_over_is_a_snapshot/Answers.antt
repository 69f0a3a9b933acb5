use Rattle.peer_join.proofs.Snapshots.{handed-snapshot}
use Rattle.peer_join.proofs.laws.what_is_handed_over_is_a_snapshot.Goals as goal

pub returns : goal.returns
returns g c = λ config log m s rise peer window there kept. handed-snapshot g.G.Game.rules config log m s rise peer window there kept
