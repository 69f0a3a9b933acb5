use Rattle.std.proofs.Common.{refl}
use Rattle.std.proofs.lemmas.Result.{err_from_is_err_and}
use Rattle.peer_packet.proofs.LoopLaws.{counts_on, counts_stop, counts_done, counts_over}
use Rattle.peer_packet.proofs.vector.counts_of.Goals as goal

pub returns-in_err-count : goal.returns-in_err-count
returns-in_err-count c =
    let p = err_from_is_err_and c.from_residual.result c.from_residual.ensures.1 in
    rw (p.1, p.2) (counts_stop c.loop.counts.items c.args.slots c.loop.counter c.loop.left c.loop.rest.now c.in_err-count.field-0.0 _ c.loop-test.true c.in_err-count.ensures c.loop.invariant.read)

pub loop-preserved : goal.loop-preserved
loop-preserved c = record {
  read = rw c.push.ensures.items (counts_on c.loop.counts.items c.args.slots c.loop.counter c.loop.left c.loop.rest.now c.in_ok-count.count c.in_ok-count.after.now _ c.loop-test.true c.in_ok-count.ensures c.loop.invariant.read);
  len = rw (c.push.ensures.len, c.loop.invariant.len) refl;
}

pub returns-in_err-check : goal.returns-in_err-check
returns-in_err-check c =
    let p = err_from_is_err_and c.from_residual-in_err-check.result c.from_residual-in_err-check.ensures.1 in
    rw (p.1, p.2, c.in_err-check.ensures.err.0) (counts_over c.loop.counts.items c.args.slots c.loop.counter c.loop.left c.loop.rest.now _ c.loop-test.false c.in_err-check.ensures.err.1 c.loop.invariant.read)

pub returns : goal.returns
returns c = counts_done c.loop.counts.items c.args.slots c.loop.counter c.loop.left c.loop.rest.now _ c.loop-test.false c.in_ok-check.ensures.ok c.loop.invariant.read
