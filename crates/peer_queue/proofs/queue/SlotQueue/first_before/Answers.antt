use Rattle.std.proofs.Common.{ap, arith}
use Rattle.peer_queue.specs.declared.sent.SentBytes.{SentBytes}
use Rattle.peer_queue.proofs.Rooms.{front-zero, front-nil, none-there}
use Rattle.peer_queue.proofs.queue.SlotQueue.first_before.Goals as goal

pub returns-in_default-clause-none : goal.returns-in_default-clause-none
returns-in_default-clause-none c =
    let q = c.self.inside.commands in
    let at = ap (λ (x : SentBytes). x.time) c.in-Some.ensures.lookup in
    let past = c.if-x-bound.false in
    rw (← c.self.view_is) (front-zero c.args.bound q.items c.in-Some.x.now (λ some. omega arith))

pub returns-in_default-2-clause-none : goal.returns-in_default-2-clause-none
returns-in_default-2-clause-none c =
    let q = c.self.inside.commands in
    let long = q.ok.0 in
    let empty = none-there q.len (rw c.in_default.is at c.front.ensures.variant.1) in
    rw (← c.self.view_is) (front-nil c.args.bound q.items (omega arith))
