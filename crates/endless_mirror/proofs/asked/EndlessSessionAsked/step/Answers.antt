use Rattle.endless_mirror.proofs.Steps.{other-mirror, event-plans}
use Rattle.endless_mirror.proofs.asked.EndlessSessionAsked.step.Goals as goal

pub invariant_of-self : goal.invariant_of-self
invariant_of-self g c =
    other-mirror _ c.step-stepped.new.self _ (event-plans c.self.inside.mirror _ _ c.step-stepped.ensures.state) c.self.invariant
