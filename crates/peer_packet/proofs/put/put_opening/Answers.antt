use Rattle.peer_packet.proofs.PutLaws.{Puts-then, Puts-of}
use Rattle.peer_packet.proofs.put.put_opening.Goals as goal

pub returns : goal.returns
returns c = Puts-then (Puts-then (Puts-then (Puts-then c.put-at.ensures (Puts-of c.to_le_bytes.ensures c.put-at-2.ensures)) c.put-at-3.ensures) (Puts-of c.to_le_bytes-2.ensures c.put-at-4.ensures)) (Puts-of c.to_le_bytes-3.ensures c.put.ensures)
