-- A packet that was put for a peer of any start, and a snapshot for one of any links.
use Rattle.std.proofs.Common.{ℕ}
use Rattle.peer_calls.specs.declared.answers.PacketAnswer.{PacketAnswer}
use Rattle.peer_calls.specs.declared.answers.PacketAnswer.TheVariants.{NotThere, Short, Made}
use Rattle.peer_calls.specs.declared.answers.SnapshotAnswer.{SnapshotAnswer}
use Rattle.peer_calls.specs.declared.answers.SnapshotAnswer.TheVariants.{TooShort, Put}
use Rattle.peer_packet.specs.declared.terms.Terms.{Terms}
use Rattle.peer_packet.specs.Packet.{Packet, AreTerms, IsPacket}
use Rattle.peer_slots.specs.Links.{LinkState}
use Rattle.peer_slots.specs.Queues.{QueueState}
use Rattle.peer_sending.specs.Sending.{AreShort, IfMade}
use Rattle.peer_handing.specs.Handing.{IfPut}

pub made-at : (a : PacketAnswer) (P : ℕ → ℕ → Type 0) (start : ℕ) → IfMade a (λ size. (from : ℕ) → P from size) → IfMade a (P start)
made-at NotThere P start h = tt
made-at (Short head) P start h = tt
made-at (Made is_more size) P start h = h start

pub made-packet : (a : PacketAnswer) (terms : Terms) (q : QueueState) (P : ℕ → Packet) (start : ℕ) → AreTerms terms → AreShort terms.payload q
    → IfMade a (λ size. (from : ℕ) → AreTerms terms → AreShort terms.payload q → IsPacket terms (P from)) → IfMade a (λ size. IsPacket terms (P start))
made-packet NotThere terms q P start legal short h = tt
made-packet (Short head) terms q P start legal short h = tt
made-packet (Made is_more size) terms q P start legal short h = h start legal short

pub handed-by : (a : SnapshotAnswer) (P : ℕ → LinkState → ℕ → Type 0) (start : ℕ) (l : LinkState) → IfPut a (λ size. (from : ℕ) (links : LinkState) → P from links size) → IfPut a (P start l)
handed-by (TooShort size) P start l h = tt
handed-by (Put size) P start l h = h start l
