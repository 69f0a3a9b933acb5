use Rattle.std.proofs.Common.{◌≡◌, map, take}
use Rattle.peer_model.specs.Queue.{have_of}
use Rattle.peer_slots.proofs.Queued.{AreCounted}
use Rattle.peer_slots.proofs.queues.count_each.Given as goal

abbrev pub invariant-loop-queue : goal.invariant-loop-queue
invariant-loop-queue l = record {
  counts : l.counts.items ≡ map (λ q. have_of q.queue) (take l.queue-index l.queues);
  few : AreCounted l.queues l.queue-index;
}
