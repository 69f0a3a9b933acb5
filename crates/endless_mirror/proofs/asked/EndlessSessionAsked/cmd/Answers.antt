use Rattle.endless_mirror.proofs.Steps.{other-mirror, other-next, arrival-plans}
use Rattle.endless_mirror.proofs.asked.EndlessSessionAsked.cmd.Goals as goal

pub invariant_of-self : goal.invariant_of-self
invariant_of-self g c =
    other-next _ c.next_behind-self-inside.result _ c.next_behind-self-inside.ensures.few
    (other-mirror _ c.arrive-arrival.new.self _ (arrival-plans c.self.inside.mirror _ _ _ c.arrive-arrival.ensures.state) c.self.invariant)
