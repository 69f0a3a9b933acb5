use Rattle.std.proofs.Common.{◌≡◌, ◌++◌, map, take, drop}
use Rattle.peer_slots.specs.Queues.{trimmed_in_room}
use Rattle.peer_slots.proofs.queues.trim_each.Given as goal

abbrev pub invariant-loop-queue : goal.invariant-loop-queue
invariant-loop-queue l = l.queues ≡ map (trimmed_in_room l.bound) (take l.queue-index l.fn.queues) ++ drop l.queue-index l.fn.queues
