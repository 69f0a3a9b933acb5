use Rattle.late_joiner.proofs.Turned.{keeps-turn, turned-by}
use Rattle.late_joiner.proofs.joiner.Joiner.turn.Goals as goal

pub invariant_of-self : goal.invariant_of-self
invariant_of-self g c = rw c.turn.ensures.state (keeps-turn g.G.Game.rules _ c.self.invariant)

pub returns-clause-state : goal.returns-clause-state
returns-clause-state g c = rw (← c.self.view_is) (turned-by _ _ c.turn.ensures.state)
