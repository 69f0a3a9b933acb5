use Rattle.lossy_link.proofs.LinkLaws.{next-packet, other-packet, unflown-packet}
use Rattle.lossy_link.proofs.laws.a_packet_brings_its_command_in_turn.Goals as goal

pub returns-clause-next : goal.returns-clause-next
returns-clause-next c = next-packet

pub returns-clause-other : goal.returns-clause-other
returns-clause-other c = other-packet

pub returns-clause-unflown : goal.returns-clause-unflown
returns-clause-unflown c = unflown-packet
