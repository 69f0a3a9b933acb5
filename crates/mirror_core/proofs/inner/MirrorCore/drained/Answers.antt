use Rattle.mirror_core.proofs.Calls.{drained-is}
use Rattle.mirror_core.proofs.inner.MirrorCore.drained.Goals as goal

pub returns : goal.returns
returns g c =
    rw (
      c.last_clock.ensures,
      c.length.ensures.length,
      c.stagger.ensures.schedule,
      ← c.self.view_is,
    )
    (drained-is c.self.invariant)
