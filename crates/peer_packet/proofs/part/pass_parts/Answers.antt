use Rattle.std.proofs.Common.{sym, ◌∙◌}
use Rattle.std.proofs.lemmas.Bool.{eqb-true, eqb-false}
use Rattle.std.proofs.lemmas.Result.{err_from_is_err_and}
use Rattle.peer_packet.specs.Packet.{is_part}
use Rattle.peer_packet.proofs.LoopLaws.{parts_on, parts_stop, parts_end, parts_checked}
use Rattle.peer_packet.proofs.part.pass_parts.Goals as goal

pub returns-then-is_empty : goal.returns-then-is_empty
returns-then-is_empty c = parts_end _ _ _ _ _ _ (eqb-true _ _ (sym c.is_empty.ensures ∙ c.if-is_empty.true)) c.loop.invariant

pub returns-in_err-origin : goal.returns-in_err-origin
returns-in_err-origin c =
    let p = err_from_is_err_and c.from_residual.result c.from_residual.ensures.1 in
    rw (p.1, p.2) (parts_stop (is_part c.args.terms.now.slots c.args.to c.args.have.now.items) c.args.terms.now.payload c.loop.least c.args.terms.now.slots c.loop.counter c.loop.rest.now c.in_err-origin.field-0.0 _ c.loop-test.true
    (eqb-false _ _ (sym c.is_empty.ensures ∙ c.if-is_empty.false)) c.in_err-origin.ensures c.loop.invariant)

pub loop-preserved : goal.loop-preserved
loop-preserved c =
    rw c.from-least.ensures (parts_on (is_part c.args.terms.now.slots c.args.to c.args.have.now.items) c.args.terms.now.payload c.loop.least c.args.terms.now.slots c.loop.counter c.loop.rest.now c.in_ok-origin.origin c.in_ok-origin.after.now _ c.loop-test.true
    (eqb-false _ _ (sym c.is_empty.ensures ∙ c.if-is_empty.false)) c.in_ok-origin.ensures c.loop.invariant)

pub returns : goal.returns
returns c = parts_checked (is_part c.args.terms.now.slots c.args.to c.args.have.now.items) c.args.terms.now.payload c.loop.least c.args.terms.now.slots c.loop.counter c.loop.rest.now _ c.is_empty-2.result c.check.result c.is_empty-2.ensures c.loop-test.false c.check.ensures.ok c.check.ensures.err c.loop.invariant
