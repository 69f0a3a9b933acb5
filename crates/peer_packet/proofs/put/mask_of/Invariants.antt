use Rattle.std.proofs.Common.{◌≡◌, ◌≤◌, length, drop}
use Rattle.peer_packet.specs.Packet.{mask_of}
use Rattle.peer_packet.proofs.put.mask_of.Given as goal

abbrev pub invariant-loop-left : goal.invariant-loop-left
invariant-loop-left l = record {
  mask : l.mask ≡ mask_of (drop l.left l.have);
  within : l.left ≤ length l.have;
}

abbrev pub decreases-loop-left : goal.decreases-loop-left
decreases-loop-left l = l.left
