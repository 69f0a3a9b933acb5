use Rattle.std.proofs.lemmas.Result.{err_from_is_err_and}
use Rattle.peer_packet.proofs.SnapLaws.{slots_on, slots_stop, slots_done}
use Rattle.peer_packet.proofs.snapshot.pass_queues.Goals as goal

pub returns-in_err-rest : goal.returns-in_err-rest
returns-in_err-rest c =
    let p = err_from_is_err_and c.from_residual.result c.from_residual.ensures.1 in
    rw (p.1, p.2) (slots_stop c.args.payload c.args.base c.args.have.now c.loop-count.count-index 0 c.loop-count.rest.now c.in_err-rest.field-0.0 _ c.loop-count-test.true c.in_err-rest.ensures c.loop-count.invariant)

pub loop-count-preserved : goal.loop-count-preserved
loop-count-preserved c = slots_on c.args.payload c.args.base c.args.have.now c.loop-count.count-index 0 c.loop-count.rest.now _ _ c.loop-count-test.true c.in_ok-rest.ensures c.loop-count.invariant

pub returns : goal.returns
returns c = slots_done c.args.payload c.args.base c.args.have.now c.loop-count.count-index c.loop-count.rest.now _ c.loop-count-test.false c.loop-count.invariant
