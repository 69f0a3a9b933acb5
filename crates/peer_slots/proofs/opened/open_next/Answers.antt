use Rattle.peer_slots.proofs.Opens.{opened-next}
use Rattle.peer_slots.proofs.opened.open_next.Goals as goal

pub returns-in-Some-clause-queue : goal.returns-in-Some-clause-queue
returns-in-Some-clause-queue c =
    opened-next c.opened.result c.args.room c.args.have c.args.left.now c.next.new.self c.in-Some.queue c.if-have-eq0.false c.in-Some.ensures c.opened.ensures
