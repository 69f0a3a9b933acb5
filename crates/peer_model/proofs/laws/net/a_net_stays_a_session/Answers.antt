use Rattle.peer_model.proofs.Nets.{run-session}
use Rattle.peer_model.proofs.laws.net.a_net_stays_a_session.Goals as goal

pub returns : goal.returns
returns g c = λ session n es here. run-session session es n here
