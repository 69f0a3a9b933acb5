use Rattle.rolling_mirror.proofs.Windows.{last-ordered}
use Rattle.rolling_mirror.proofs.rolling.RollingMirror.always.Goals as goal

pub returns-clause-last_ordered : goal.returns-clause-last_ordered
returns-clause-last_ordered g c = λ whole h.
    last-ordered g.G.Game.rules c.self.inside.base whole _ (rw (← c.self.view_is) at h) c.always.ensures.trailing
