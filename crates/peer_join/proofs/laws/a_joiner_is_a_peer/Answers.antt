use Rattle.peer_join.proofs.Joins.{joined-peer}
use Rattle.peer_join.proofs.laws.a_joiner_is_a_peer.Goals as goal

pub returns : goal.returns
returns g c = λ slots log plans accepted m some same here. joined-peer slots log plans accepted m some same here
