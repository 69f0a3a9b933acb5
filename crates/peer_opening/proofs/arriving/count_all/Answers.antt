use Rattle.std.proofs.Common.{length, ap, sym, arith}
use Rattle.peer_queue.specs.Room.{QueueInRoom}
use Rattle.peer_slots.specs.Queues.{queues_of}
use Rattle.peer_opening.proofs.Numbers.{arriving-none, length-next}
use Rattle.peer_opening.proofs.arriving.count_all.Goals as goal

pub loop-slot-init : goal.loop-slot-init
loop-slot-init c = (sym (ap length (arriving-none (queues_of c.args.queues.now).queues)), omega arith)

pub loop-slot-preserved : goal.loop-slot-preserved
loop-slot-preserved c =
    let h = c.loop-slot.invariant in
    let next = length-next c.loop-slot.slot (queues_of c.args.queues.now).queues in
    let so_far = h.0 in
    let few = h.1 in
    let here = c.len.ensures in
    let same = ap (λ (q : QueueInRoom). length q.queue.commands) c.get.ensures in
    let fits = c.len.type_inv in
    (omega arith, omega arith)
