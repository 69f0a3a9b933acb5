use Rattle.std.proofs.Common.{arith, rules, sym, ◌∙◌}
use Rattle.std.proofs.lemmas.Result.{err_from_is_err_and}
use Rattle.peer_packet.proofs.SnapLaws.{snap_stops, snap_over}
use Rattle.peer_packet.proofs.QueueWalks.{snap_passes}
use Rattle.peer_packet.proofs.snapshot.snapshot_of.Goals as goal

pub returns-in_err-rest : goal.returns-in_err-rest
returns-in_err-rest c =
    let p = err_from_is_err_and c.from_residual-in_err-rest.result c.from_residual-in_err-rest.ensures.1 in
    rw (p.1, p.2) (snap_stops c.args.terms.now c.args.bytes.now c.in_ok-opening.opening c.in_ok-have.have.items c.in_ok-opening.rest.now c.in_ok-have.queues.now c.in_err-rest.field-0.0 c.in_ok-opening.ensures c.in_ok-have.ensures (search rules))

pub returns-in_err-check : goal.returns-in_err-check
returns-in_err-check c =
    let p = err_from_is_err_and c.from_residual-in_err-check.result c.from_residual-in_err-check.ensures.1 in
    rw (p.1, p.2, c.in_err-check.ensures.err.0) (snap_over c.args.terms.now c.args.bytes.now c.in_ok-opening.opening c.in_ok-have.have.items c.in_ok-opening.rest.now c.in_ok-have.queues.now c.in_ok-rest.rest.now c.in_ok-opening.ensures c.in_ok-have.ensures (search rules) (sym c.is_empty.ensures ∙ c.in_err-check.ensures.err.1))

pub invariant_of-result : goal.invariant_of-result
invariant_of-result c =
    (snap_passes c.args.terms.now c.args.bytes.now c.in_ok-opening.opening c.in_ok-have.have.items c.in_ok-opening.rest.now c.in_ok-have.queues.now c.in_ok-rest.rest.now c.requires (λ i. omega (arith, c.type_inv.bytes i))
    c.in_ok-opening.ensures c.in_ok-have.ensures (search rules) (sym c.is_empty.ensures ∙ c.in_ok-check.ensures.ok)).0

pub returns : goal.returns
returns c =
    (snap_passes c.args.terms.now c.args.bytes.now c.in_ok-opening.opening c.in_ok-have.have.items c.in_ok-opening.rest.now c.in_ok-have.queues.now c.in_ok-rest.rest.now c.requires (λ i. omega (arith, c.type_inv.bytes i))
    c.in_ok-opening.ensures c.in_ok-have.ensures (search rules) (sym c.is_empty.ensures ∙ c.in_ok-check.ensures.ok)).1
