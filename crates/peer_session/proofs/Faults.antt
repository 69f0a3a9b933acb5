-- Bytes that are no packet are read as none.
use Rattle.std.specs.Prelude.{Result, Ok, Err}
use Rattle.std.proofs.Common.{◌≡◌, List, ℕ, sym, ◌∙◌, subst}
use Rattle.peer_packet.specs.declared.fault.Fault.{Fault}
use Rattle.peer_packet.specs.declared.terms.Terms.{Terms}
use Rattle.peer_packet.specs.Packet.{Packet, IsPacket, AreTerms, bytes_of}
use Rattle.peer_packet.specs.Reading.{packet_at}
use Rattle.peer_packet.proofs.PacketLaws.{packet_again}

is-ok : {X : Type 0} → Result X Fault → Type 0
is-ok (Ok x) = Unit {0}
is-ok (Err e) = ⊥

-- what has a fault is the bytes of no packet
pub no-packet : (terms : Terms) (bytes : List ℕ) (p : Packet) (fault : Fault) → AreTerms terms → IsPacket terms p → bytes ≡ bytes_of terms.session p
    → packet_at terms bytes ≡ Err fault → ⊥
unfolding is-ok
no-packet terms bytes p fault legal is whole refused =
    let again : packet_at terms bytes ≡ Ok p = rw whole (packet_again terms p legal.session legal.slots is) in
    let same : ◌≡◌ {A = Result Packet Fault} (Ok p) (Err fault) = sym again ∙ refused in
    subst (is-ok {X = Packet}) same tt
