use Rattle.peer_laws.proofs.Packets.{packet-has}
use Rattle.peer_laws.proofs.laws.packets.a_packet_has_what_fits.Goals as goal

pub returns : goal.returns
returns g c = λ config to room s is has. packet-has config to room s is has
