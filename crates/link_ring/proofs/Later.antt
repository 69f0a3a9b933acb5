-- The two ends of a link stay the two ends of a link.
use Rattle.std.proofs.Common.{sym, ◌∙◌}
use Rattle.link_ring.specs.declared.receive.LinkReceive.{LinkReceive}
use Rattle.link_ring.specs.declared.send.LinkSend.{LinkSend}
use Rattle.link_ring.specs.Ends.{IsLink, SameSend, SameReceive}

-- an end that stays the same twice stays the same
pub same_send-trans : (a b c : LinkSend) → SameSend a b → SameSend b c → SameSend a c
same_send-trans a b c h k = ((k.0.0 ∙ h.0.0, k.0.1 ∙ h.0.1, k.0.2 ∙ h.0.2, k.0.3 ∙ h.0.3), k.1 ∙ h.1)

-- whatever was sent and received meanwhile
pub link-later : (s t : LinkSend) (r q : LinkReceive) → IsLink s r → SameSend s t → SameReceive r q → IsLink t q
link-later s t r q h a b = (b.0.0 ∙ h.0 ∙ sym a.0.0, b.0.1 ∙ h.1 ∙ sym a.0.1, b.0.2 ∙ h.2 ∙ sym a.0.2, b.0.3 ∙ h.3 ∙ sym a.0.3)
