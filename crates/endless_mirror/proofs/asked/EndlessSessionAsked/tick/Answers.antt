use Rattle.endless_mirror.proofs.Steps.{other-mirror, tick-plans}
use Rattle.endless_mirror.proofs.asked.EndlessSessionAsked.tick.Goals as goal

pub invariant_of-self : goal.invariant_of-self
invariant_of-self g c =
    other-mirror _ c.tick-ticked.new.self _ (tick-plans g.G.Game.rules c.self.inside.mirror _ c.tick-ticked.ensures.state) c.self.invariant
