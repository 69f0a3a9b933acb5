use Rattle.std.proofs.Common.{ap, ◌∙◌, ◌+◌, length, refl, arith}
use Rattle.std.specs.List.{flat_map}
use Rattle.peer_model.specs.Queue.{have_of}
use Rattle.peer_packet.specs.Packet.{count_bytes, counts_bytes}
use Rattle.peer_packet.specs.Snapshot.{queue_bytes}
use Rattle.peer_queue.specs.Room.{QueueInRoom}
use Rattle.peer_slots.specs.Queues.{queues_of}
use Rattle.peer_handing.specs.Handing.{handed_of}
use Rattle.peer_handing.proofs.BySlot.{size-on}
use Rattle.peer_handing.proofs.slots.slots_size.Goals as goal

pub loop-slot-init : goal.loop-slot-init
unfolding counts_bytes
loop-slot-init c = record { size = refl; most = omega arith }

pub loop-slot-preserved : goal.loop-slot-preserved
loop-slot-preserved c =
    let queues = (queues_of c.args.queues.now).queues in
    let few = c.slot_size-size.ensures.few in
    let most = c.loop-slot.invariant.most in
    let here = c.slot_size-size.ensures.size ∙ ap (λ (q : QueueInRoom). length (count_bytes (have_of q.queue)) + length (flat_map queue_bytes (handed_of c.args.from q.queue))) c.get.ensures in
    record {
      size = size-on c.args.from queues c.loop-slot.slot c.loop-slot.size c.slot_size-size.result c.loop-slot.invariant.size here;
      most = omega arith;
    }
