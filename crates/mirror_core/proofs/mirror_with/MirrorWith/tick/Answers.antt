use Rattle.mirror_core.proofs.Allowed.{allowed-tick}
use Rattle.mirror_core.proofs.mirror_with.MirrorWith.tick.Goals as goal

pub invariant_of-self : goal.invariant_of-self
invariant_of-self g c =
    let old = c.self.inside.core in
    rw (c.tick.ensures.state, c.tick.ensures.stale)
    (allowed-tick old.state
    (λ ended copies. g.P.RefreshPolicy.allows c.self.inside.policy ended copies old.stale)
    c.self.invariant)
