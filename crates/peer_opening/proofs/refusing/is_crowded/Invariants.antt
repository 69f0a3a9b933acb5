use Rattle.std.proofs.Common.{◌≡◌, nat_lt, length}
use Rattle.std.specs.List.{list_any}
use Rattle.peer_packet.specs.Snapshot.{Queue}
use Rattle.peer_calls.specs.Handing.{is_crowded}
use Rattle.peer_opening.proofs.refusing.is_crowded.Given as goal

abbrev pub invariant-loop-queue : goal.invariant-loop-queue
invariant-loop-queue l = list_any (λ (q : Queue). nat_lt l.room (length q.commands)) l.left ≡ is_crowded l.room l.snap

abbrev pub decreases-loop-queue : goal.decreases-loop-queue
decreases-loop-queue l = length l.left
