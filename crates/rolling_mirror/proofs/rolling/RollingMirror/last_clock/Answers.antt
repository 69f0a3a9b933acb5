use Rattle.std.proofs.Common.{◌∙◌}
use Rattle.sync_model.proofs.Limits.{last-is}
use Rattle.rolling_mirror.proofs.rolling.RollingMirror.last_clock.Goals as goal

pub returns-clause-clock : goal.returns-clause-clock
returns-clause-clock g c =
    let many = rw (← c.self.view_is) at c.stagger.ensures.copies in
    rw (← c.self.view_is)
    (c.clock.ensures ∙ last-is _ c.copies.result (c.copies.ensures.copies ∙ many) c.self.invariant.some_copy)
