use Rattle.live_mirror.proofs.Steps.{other-mirror, drain-fixed, drain-front}
use Rattle.live_mirror.proofs.session.Session.make_drain.Goals as goal

pub invariant_of-self : goal.invariant_of-self
invariant_of-self g c =
    let same = drain-fixed c.drain_mirror.result _ _ c.self.inside.mirror c.drain_mirror.new.mirror _ _ c.drain_mirror.ensures.state c.drain_mirror.ensures.stopped in
    other-mirror _ c.drain_mirror.new.mirror _ _ same.0 same.1 c.self.invariant

pub returns-clause-front : goal.returns-clause-front
returns-clause-front g c = drain-front c.drain_mirror.result _ _ _ _ _ _ c.drain_mirror.ensures.text c.drain_mirror.ensures.stopped
