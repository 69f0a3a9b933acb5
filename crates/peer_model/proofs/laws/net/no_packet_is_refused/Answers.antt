use Rattle.peer_model.proofs.Nets.{none-refused}
use Rattle.peer_model.proofs.laws.net.no_packet_is_refused.Goals as goal

pub returns : goal.returns
returns g c = λ slots n p here made. none-refused slots n p here made
