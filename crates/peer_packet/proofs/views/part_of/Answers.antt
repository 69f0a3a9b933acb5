use Rattle.std.proofs.lemmas.Result.{err_from_is_err_and}
use Rattle.peer_packet.proofs.WalkLaws.{part_shown, part_cut, part_headless}
use Rattle.peer_packet.proofs.views.part_of.Goals as goal

pub returns-in_err-head : goal.returns-in_err-head
returns-in_err-head c =
    let p = err_from_is_err_and c.from_residual.result c.from_residual.ensures.1 in
    rw (p.1, p.2) (part_headless c.args.bytes.now c.in_err-head.field-0.0 c.in_err-head.ensures)

pub returns-in_err-rest : goal.returns-in_err-rest
returns-in_err-rest c =
    let p = err_from_is_err_and c.from_residual-in_err-rest.result c.from_residual-in_err-rest.ensures.1 in
    rw (p.1, p.2) (part_cut c.args.bytes.now c.in_ok-head.commands.now c.in_ok-head.head c.in_err-rest.field-0.0 c.in_ok-head.ensures c.in_err-rest.ensures)

pub invariant_of-result : goal.invariant_of-result
invariant_of-result c = (part_shown c.args.bytes.now c.in_ok-head.commands.now c.in_ok-rest.rest.now c.in_ok-head.head c.in_ok-head.ensures c.in_ok-rest.ensures).0

pub returns : goal.returns
returns c = (part_shown c.args.bytes.now c.in_ok-head.commands.now c.in_ok-rest.rest.now c.in_ok-head.head c.in_ok-head.ensures c.in_ok-rest.ensures).1
