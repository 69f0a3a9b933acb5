use Rattle.peer_laws.proofs.Packets.{packet-waits}
use Rattle.peer_laws.proofs.laws.packets.what_was_put_is_left_out.Goals as goal

pub returns : goal.returns
returns g c = λ config to s. packet-waits config to s
