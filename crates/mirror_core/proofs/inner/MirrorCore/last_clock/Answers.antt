use Rattle.std.proofs.Common.{◌∙◌}
use Rattle.sync_model.proofs.Limits.{last-is}
use Rattle.mirror_core.proofs.Kept.{some-copies}
use Rattle.mirror_core.proofs.inner.MirrorCore.last_clock.Goals as goal

pub returns : goal.returns
returns g c =
    let many = rw (← c.self.view_is) at c.stagger.ensures.copies in
    rw (← c.self.view_is)
    (c.clock.ensures ∙ last-is _ c.copies.result (c.copies.ensures.copies ∙ many) (some-copies c.self.invariant).0)
