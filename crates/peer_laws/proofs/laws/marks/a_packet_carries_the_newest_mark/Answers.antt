use Rattle.peer_laws.proofs.Marked.{newest-is}
use Rattle.peer_laws.proofs.laws.marks.a_packet_carries_the_newest_mark.Goals as goal

pub returns : goal.returns
returns g c = λ config to room s rise. newest-is s.marks.own rise
