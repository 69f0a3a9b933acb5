use Rattle.std.proofs.Common.{◌≡◌, ◌*◌, ◌≤◌, length, take, drop}
use Rattle.std.specs.List.{flat_map}
use Rattle.peer_packet.specs.Packet.{sent_bytes}
use Rattle.peer_handing.proofs.commands.commands_size.Given as goal

abbrev pub invariant-loop-place : goal.invariant-loop-place
invariant-loop-place g l = record {
  size : l.size ≡ length (flat_map sent_bytes (take l.place (drop l.from (g.C.Commands.commands l.commands))));
  most : l.size ≤ 260 * l.place;
}
