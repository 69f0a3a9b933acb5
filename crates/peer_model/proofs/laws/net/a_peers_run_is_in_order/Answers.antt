use Rattle.peer_model.proofs.Converging.{ends-in-order}
use Rattle.peer_model.proofs.laws.net.a_peers_run_is_in_order.Goals as goal

pub returns : goal.returns
returns g c = λ slots t log m here has. ends-in-order slots t log m here has
