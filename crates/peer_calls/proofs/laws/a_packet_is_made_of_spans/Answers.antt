use Rattle.peer_calls.proofs.Spans.{packet-spans}
use Rattle.peer_calls.proofs.laws.a_packet_is_made_of_spans.Goals as goal

pub returns : goal.returns
returns g c = λ config to room s none. packet-spans config to room s none
