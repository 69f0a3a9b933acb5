use Rattle.sync_model.proofs.Limits.{limit-first, limit-behind}
use Rattle.mirror_core.proofs.inner.MirrorCore.limit.Goals as goal

pub returns-then-copy-eq0 : goal.returns-then-copy-eq0
returns-then-copy-eq0 g c =
    rw (c.limit.ensures, c.stagger.ensures.schedule, ← c.self.view_is)
    (limit-first _ c.args.copy c.if-copy-eq0.true)

pub returns : goal.returns
returns g c =
    rw (c.limit-2.ensures, c.stagger-2.ensures.schedule, ← c.self.view_is)
    (limit-behind _ c.args.copy c.clock-ahead.result c.if-copy-eq0.false c.clock-ahead.ensures)
