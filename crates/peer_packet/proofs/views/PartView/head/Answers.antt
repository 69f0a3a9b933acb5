use Rattle.std.proofs.Common.{ℕ, sym, ap, ◌∙◌}
use Rattle.peer_packet.specs.Packet.{head_of}
use Rattle.peer_packet.proofs.WalkLaws.{commands_long}
use Rattle.peer_packet.proofs.views.PartView.head.Goals as goal

pub returns : goal.returns
returns c =
    let h = c.self.inside.head in
    ap (λ (n : ℕ). record { origin = h.origin; count = n; first = h.first; before = h.before }) (sym (commands_long h.count h.before c.self.inside.commands.now c.self.invariant)) ∙ ap head_of c.self.view_is
