use Rattle.std.proofs.Common.{arith}
use Rattle.std.proofs.lemmas.Grind.{elements}
use Rattle.std.proofs.lemmas.List.Edits.{map_over_more}
use Rattle.peer_slots.specs.Queues.{trimmed_in_room}
use Rattle.peer_slots.proofs.queues.trim_each.Goals as goal

pub loop-queue-preserved : goal.loop-queue-preserved
loop-queue-preserved c = rw c.trim.ensures
    (map_over_more (trimmed_in_room c.args.bound) c.args.queues.now c.loop-queue.queues
    c.loop-queue.queue-index _ c.loop-queue-test.true c.loop-queue.invariant (grind (arith, elements)))
