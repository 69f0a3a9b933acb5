use Rattle.std.proofs.lemmas.Result.{err_from_is_err_and}
use Rattle.peer_packet.proofs.QueueWalks.{queue_shown, queue_cut, queue_headless}
use Rattle.peer_packet.proofs.walk.queue_of.Goals as goal

pub returns-in_err-head : goal.returns-in_err-head
returns-in_err-head c =
    let p = err_from_is_err_and c.from_residual.result c.from_residual.ensures.1 in
    rw (p.1, p.2) (queue_headless c.args.base c.args.bytes.now c.in_err-head.field-0.0 c.in_err-head.ensures)

pub returns-in_err-rest : goal.returns-in_err-rest
returns-in_err-rest c =
    let p = err_from_is_err_and c.from_residual-in_err-rest.result c.from_residual-in_err-rest.ensures.1 in
    rw (p.1, p.2) (queue_cut c.args.base c.args.bytes.now c.in_ok-head.commands.now c.in_ok-head.head c.in_err-rest.field-0.0 c.in_ok-head.ensures c.in_err-rest.ensures)

pub invariant_of-queue : goal.invariant_of-queue
invariant_of-queue c = (queue_shown c.args.base c.args.bytes.now c.in_ok-head.commands.now c.in_ok-rest.rest.now c.in_ok-head.head c.in_ok-head.ensures c.in_ok-rest.ensures).0

pub returns : goal.returns
returns c = (queue_shown c.args.base c.args.bytes.now c.in_ok-head.commands.now c.in_ok-rest.rest.now c.in_ok-head.head c.in_ok-head.ensures c.in_ok-rest.ensures).1
