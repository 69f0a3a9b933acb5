use Rattle.late_joiner.proofs.Turned.{keeps-drain}
use Rattle.late_joiner.proofs.joiner.Joiner.drain.Goals as goal

pub invariant_of-self : goal.invariant_of-self
invariant_of-self g c = rw c.drain.ensures.state (keeps-drain g.G.Game.rules _ c.self.invariant)
