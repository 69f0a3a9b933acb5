use Rattle.std.proofs.Common.{◌≡◌, ◌*◌, ◌^◌, ◌≤◌, length}
use Rattle.peer_calls.specs.Handing.{arriving}
use Rattle.peer_slots.specs.Queues.{queues_of}
use Rattle.peer_opening.proofs.arriving.count_all.Given as goal

abbrev pub invariant-loop-slot : goal.invariant-loop-slot
invariant-loop-slot l = (l.count ≡ length (arriving l.slot (queues_of l.queues).queues)) × (l.count ≤ l.slot * 2 ^ 32)
