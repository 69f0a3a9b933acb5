use Rattle.std.proofs.Common.{arith}
use Rattle.peer_packet.proofs.PacketLaws.{is_found, is_only}
use Rattle.peer_packet.proofs.packet.PacketView.read.Goals as goal

pub returns-clause-found : goal.returns-clause-found
returns-clause-found c = is_found c.args.terms.now c.args.bytes.now c.packet_of.result (λ i. omega (arith, c.type_inv.bytes i)) c.packet_of.ensures

pub returns-clause-only : goal.returns-clause-only
returns-clause-only c = is_only c.args.terms.now c.args.bytes.now c.packet_of.result c.requires c.packet_of.ensures
