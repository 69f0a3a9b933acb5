use Rattle.endless_mirror.proofs.Steps.{other-mirror, turn-plans}
use Rattle.endless_mirror.proofs.asked.EndlessSessionAsked.turn.Goals as goal

pub invariant_of-self : goal.invariant_of-self
invariant_of-self g c =
    other-mirror _ c.turn-replies.new.self _ (turn-plans g.G.Game.rules c.self.inside.mirror _ c.turn-replies.ensures.state) c.self.invariant
