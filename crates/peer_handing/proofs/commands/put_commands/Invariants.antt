use Rattle.std.proofs.Common.{take, drop}
use Rattle.std.specs.List.{flat_map}
use Rattle.peer_packet.specs.Packet.{sent_bytes}
use Rattle.peer_packet.specs.Putting.{Puts}
use Rattle.peer_handing.proofs.commands.put_commands.Given as goal

abbrev pub invariant-loop-place : goal.invariant-loop-place
invariant-loop-place g l = Puts l.fn.out l.out l.at l.behind (flat_map sent_bytes (take l.place (drop l.from (g.C.Commands.commands l.commands))))
