use Rattle.peer_packet.proofs.FilledLaws.{packet-goes}
use Rattle.peer_packet.proofs.laws.a_packet_goes_on.Goals as goal

pub returns : goal.returns
returns c = λ terms p cursor room is enough some. packet-goes terms p cursor room is enough some
