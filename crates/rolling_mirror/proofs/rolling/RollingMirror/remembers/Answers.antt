use Rattle.rolling_mirror.proofs.Arrivals.{named-in}
use Rattle.rolling_mirror.proofs.rolling.RollingMirror.remembers.Goals as goal

pub returns : goal.returns
returns g c = rw (← c.self.view_is) (named-in _ c.args.from c.args.number _ _ c.self.invariant.names_are c.has.ensures)
