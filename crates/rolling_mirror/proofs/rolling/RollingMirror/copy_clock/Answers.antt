use Rattle.std.proofs.Common.{◌∙◌, ap, sym, ◌+◌}
use Rattle.sync_model.proofs.Forgetting.{copy-clocks}
use Rattle.rolling_mirror.proofs.rolling.RollingMirror.copy_clock.Goals as goal

pub returns-clause-window : goal.returns-clause-window
returns-clause-window g c = λ whole h.
    ap (λ n. c.self.inside.base + n) c.clock.ensures
    ∙ sym (copy-clocks g.G.Game.rules c.self.inside.base whole _ (rw (← c.self.view_is) at h) c.args.copy (rw (← c.self.view_is) at c.requires))
