use Rattle.peer_packet.proofs.PutLaws.{Puts-then, Puts-of}
use Rattle.peer_packet.proofs.put.put_queue_head.Goals as goal

pub returns : goal.returns
returns c = Puts-then (Puts-of c.to_le_bytes.ensures c.put-at.ensures) (Puts-then (Puts-of c.to_le_bytes-2.ensures c.put-at-2.ensures) (Puts-of c.to_le_bytes-3.ensures c.put.ensures))
