use Rattle.std.proofs.Common.{◌≡◌, ◌+◌, length}
use Rattle.std.specs.Prelude.{nat_le}
use Rattle.std.specs.List.{list_any}
use Rattle.peer_packet.specs.Packet.{Sent}
use Rattle.peer_packet.specs.Snapshot.{Queue}
use Rattle.peer_calls.specs.Handing.{is_far}
use Rattle.peer_opening.proofs.refusing.is_far.Given as goal

abbrev pub invariant-loop-queue : goal.invariant-loop-queue
invariant-loop-queue l =
    (list_any (λ (q : Queue). list_any (λ (x : Sent). nat_le l.end x.time) q.commands) l.left ≡ is_far l.window l.snap)
    × (l.end ≡ l.snap.base + l.window)

abbrev pub decreases-loop-queue : goal.decreases-loop-queue
decreases-loop-queue l = length l.left
