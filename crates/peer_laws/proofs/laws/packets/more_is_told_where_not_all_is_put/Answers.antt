use Rattle.peer_laws.proofs.Packets.{packet-told}
use Rattle.peer_laws.proofs.laws.packets.more_is_told_where_not_all_is_put.Goals as goal

pub returns : goal.returns
returns g c = λ config to room s is has. packet-told config to room s is has
