use Rattle.std.proofs.lemmas.Result.{err_from_is_err_and}
use Rattle.peer_packet.specs.Seen.{sent_seen}
use Rattle.peer_packet.proofs.LoopLaws.{sents_on, sents_stop, sents_done}
use Rattle.peer_packet.proofs.part.pass_sents.Goals as goal

pub returns-in_err-sent : goal.returns-in_err-sent
returns-in_err-sent c =
    let p = err_from_is_err_and c.from_residual.result c.from_residual.ensures.1 in
    rw (p.1, p.2) (sents_stop c.args.payload c.args.count c.loop.counter c.loop.last c.loop.rest.now c.in_err-sent.field-0.0 _ c.loop-test.true c.in_err-sent.ensures c.loop.invariant)

pub loop-preserved : goal.loop-preserved
loop-preserved c = sents_on c.args.payload c.args.count c.loop.counter c.loop.last c.loop.rest.now (sent_seen c.in_ok-sent.sent) c.in_ok-sent.after.now _ c.loop-test.true c.in_ok-sent.ensures c.loop.invariant

pub returns : goal.returns
returns c = sents_done c.args.payload c.args.count c.loop.counter c.loop.last c.loop.rest.now _ c.loop-test.false c.loop.invariant
