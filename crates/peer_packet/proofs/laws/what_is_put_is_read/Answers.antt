use Rattle.peer_packet.specs.Filling.{put_in}
use Rattle.peer_packet.proofs.FilledLaws.{put-packet}
use Rattle.peer_packet.proofs.PacketLaws.{packet_again}
use Rattle.peer_packet.proofs.laws.what_is_put_is_read.Goals as goal

pub returns : goal.returns
returns c = λ terms p cursor room legal is.
    let put = put-packet terms p cursor room is in
    (put, packet_again terms (record p { parts = (put_in cursor room p.parts).parts }) legal.session legal.slots put)
