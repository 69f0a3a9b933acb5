use Rattle.peer_model.proofs.Peers.{grown-peer}
use Rattle.peer_join.proofs.laws.a_snapshot_keeps.Goals as goal

pub returns : goal.returns
returns g c = λ slots log more m extends here. grown-peer slots log more m extends here
