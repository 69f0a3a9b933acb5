use Rattle.std.proofs.Common.{arith}
use Rattle.std.proofs.lemmas.Result.{err_from_is_err_and}
use Rattle.peer_packet.proofs.CountLaws.{vector_long}
use Rattle.peer_packet.proofs.PacketLaws.{packet_stops, packet_passes}
use Rattle.peer_packet.proofs.packet.packet_of.Goals as goal

pub pass_parts-requires : goal.pass_parts-requires
pass_parts-requires c = let long = vector_long c.args.terms.now.slots _ _ c.in_ok-have.ensures in omega (arith, long)

pub returns-in_err-pass_parts : goal.returns-in_err-pass_parts
returns-in_err-pass_parts c =
    let p = err_from_is_err_and c.from_residual-in_err-pass_parts.result c.from_residual-in_err-pass_parts.ensures.1 in
    rw (p.1, p.2) (packet_stops c.args.terms.now c.args.bytes.now c.in_ok-front.front c.in_ok-have.have.items c.in_ok-mark.mark c.in_ok-front.rest.now c.in_ok-have.rest.now c.in_ok-mark.parts.now c.in_err-pass_parts.field-0.0
    (record { at_front = c.in_ok-front.ensures; at_have = c.in_ok-have.ensures; at_mark = c.in_ok-mark.ensures }) c.in_err-pass_parts.ensures)

pub invariant_of-result : goal.invariant_of-result
invariant_of-result c =
    (packet_passes c.args.terms.now c.args.bytes.now c.in_ok-front.front c.in_ok-have.have.items c.in_ok-mark.mark c.in_ok-front.rest.now c.in_ok-have.rest.now c.in_ok-mark.parts.now _ c.requires (λ i. omega (arith, c.type_inv.bytes i))
    (record { at_front = c.in_ok-front.ensures; at_have = c.in_ok-have.ensures; at_mark = c.in_ok-mark.ensures }) c.in_ok-pass_parts.ensures).0

pub returns : goal.returns
returns c =
    (packet_passes c.args.terms.now c.args.bytes.now c.in_ok-front.front c.in_ok-have.have.items c.in_ok-mark.mark c.in_ok-front.rest.now c.in_ok-have.rest.now c.in_ok-mark.parts.now _ c.requires (λ i. omega (arith, c.type_inv.bytes i))
    (record { at_front = c.in_ok-front.ensures; at_have = c.in_ok-have.ensures; at_mark = c.in_ok-mark.ensures }) c.in_ok-pass_parts.ensures).1
