use Rattle.std.proofs.Common.{◌∙◌}
use Rattle.mirror_core.proofs.inner.MirrorCore.has.Goals as goal

pub returns : goal.returns
returns g c =
    rw (← c.self.view_is) (c.has.ensures ∙ c.self.invariant.names c.args.from c.args.number)
