use Rattle.endless_mirror.proofs.Steps.{other-mirror, event-plans}
use Rattle.endless_mirror.proofs.asked.EndlessSessionAsked.restagger.Goals as goal

pub invariant_of-self : goal.invariant_of-self
invariant_of-self g c =
    other-mirror _ c.restagger.new.self _ (event-plans c.self.inside.mirror _ _ c.restagger.ensures.state) c.self.invariant
