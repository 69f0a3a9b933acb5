use Rattle.peer_packet.proofs.PutLaws.{Puts-then, Puts-of}
use Rattle.std.proofs.Common.{ap, ◌∙◌, ℕ}
use Rattle.std.specs.Int.{w64, to_le_bytes}
use Rattle.peer_packet.proofs.put.put_vector.Goals as goal

pub returns : goal.returns
returns c = Puts-then (Puts-of (c.to_le_bytes.ensures ∙ ap (λ (m : ℕ). to_le_bytes w64 m) c.mask_of.ensures) c.put-at.ensures) c.put_counts.ensures
