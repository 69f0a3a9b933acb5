use Rattle.mirror_core.proofs.Along.{next-room, next-made, all-made}
use Rattle.mirror_core.proofs.inner.MirrorCore.make_each.Goals as goal

pub make-requires-clause-room : goal.make-requires-clause-room
make-requires-clause-room g c = next-room c.loop-e-test.true c.loop-e.invariant

pub loop-e-preserved : goal.loop-e-preserved
loop-e-preserved g c =
    rw c.push.ensures.items
    (next-made _ _ c.loop-e-test.true c.make.ensures.state c.make.ensures.answer c.loop-e.invariant)

pub returns-clause-state : goal.returns-clause-state
returns-clause-state g c =
    (all-made c.loop-e-test.false c.loop-e.invariant).0

pub returns-clause-replies : goal.returns-clause-replies
returns-clause-replies g c = (all-made c.loop-e-test.false c.loop-e.invariant).1
