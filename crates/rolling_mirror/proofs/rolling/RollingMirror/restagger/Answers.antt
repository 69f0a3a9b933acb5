use Rattle.std.proofs.Common.{sym}
use Rattle.rolling_mirror.proofs.Windows.{after-restagger, restagger-window}
use Rattle.rolling_mirror.proofs.rolling.RollingMirror.restagger.Goals as goal

pub returns-clause-state : goal.returns-clause-state
returns-clause-state g c = rw (← c.self.view_is) (sym (after-restagger _ c.args.plan))

pub returns-clause-window : goal.returns-clause-window
returns-clause-window g c = restagger-window g.G.Game.rules _ _ c.args.plan (returns-clause-state g c)
