use Rattle.endless_mirror.proofs.Steps.{other-mirror, other-next, behind-few, arrival-plans}
use Rattle.endless_mirror.proofs.asked.EndlessSessionAsked.own.Goals as goal

pub invariant_of-self : goal.invariant_of-self
invariant_of-self g c =
    other-next _ c.number_behind-self-inside.result _ (behind-few c.self.inside.next _ c.number_behind-self-inside.ensures)
    (other-mirror _ c.arrive.new.self _ (arrival-plans c.self.inside.mirror _ _ _ c.arrive.ensures.state) c.self.invariant)
