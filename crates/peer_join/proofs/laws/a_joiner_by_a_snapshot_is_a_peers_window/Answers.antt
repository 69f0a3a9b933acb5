use Rattle.peer_join.proofs.Same.{accepted-same}
use Rattle.peer_join.proofs.Handed.{joins-window}
use Rattle.peer_join.proofs.laws.a_joiner_by_a_snapshot_is_a_peers_window.Goals as goal

pub returns : goal.returns
returns g c = λ config log m s me plans rise peer window past none some fits. (
  accepted-same config.terms.slots log m rise peer,
  joins-window g.G.Game.rules config log m s plans rise peer window past none some me fits,
)
