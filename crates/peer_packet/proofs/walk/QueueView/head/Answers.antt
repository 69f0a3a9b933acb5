use Rattle.std.proofs.Common.{ℕ, sym, ap, ◌∙◌}
use Rattle.peer_packet.specs.Snapshot.{queue_head}
use Rattle.peer_packet.proofs.WalkLaws.{commands_long}
use Rattle.peer_packet.proofs.walk.QueueView.head.Goals as goal

pub returns : goal.returns
returns c =
    let h = c.self.inside.head in
    ap (λ (n : ℕ). record { late = h.late; count = n; before = h.before }) (sym (commands_long h.count c.self.inside.base c.self.inside.commands.now c.self.invariant)) ∙ ap queue_head c.self.view_is
