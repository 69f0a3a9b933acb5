use Rattle.mirror_core.proofs.Allowed.{allowed-restagger}
use Rattle.mirror_core.proofs.mirror_with.MirrorWith.restagger.Goals as goal

pub invariant_of-self : goal.invariant_of-self
invariant_of-self g c =
    let old = c.self.inside.core in
    rw (c.restagger.ensures.state, c.restagger.ensures.stale)
    (allowed-restagger old.state
    (λ ended copies. g.P.RefreshPolicy.allows c.self.inside.policy ended copies old.stale)
    c.self.invariant c.args.plan)
