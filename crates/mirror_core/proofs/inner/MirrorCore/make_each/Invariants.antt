use Rattle.std.proofs.Common.{drop}
use Rattle.mirror_core.proofs.Along.{IsOnItsWay}
use Rattle.mirror_core.proofs.inner.MirrorCore.make_each.Given as goal

abbrev pub invariant-loop-e : goal.invariant-loop-e
invariant-loop-e g l =
    IsOnItsWay l.fn.self.state l.events g.row.N l.self.state (drop l.e-index l.events)
    l.replies.items
