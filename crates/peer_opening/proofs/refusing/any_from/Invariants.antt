use Rattle.std.proofs.Common.{◌≡◌, length}
use Rattle.std.specs.Prelude.{nat_le}
use Rattle.std.specs.List.{list_any}
use Rattle.peer_packet.specs.Packet.{Sent}
use Rattle.peer_opening.proofs.refusing.any_from.Given as goal

abbrev pub invariant-loop-x : goal.invariant-loop-x
invariant-loop-x l = list_any (λ (x : Sent). nat_le l.end x.time) l.left ≡ list_any (λ (x : Sent). nat_le l.end x.time) l.fn.commands

abbrev pub decreases-loop-x : goal.decreases-loop-x
decreases-loop-x l = length l.left
