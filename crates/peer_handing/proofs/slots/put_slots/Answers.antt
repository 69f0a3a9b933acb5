use Rattle.std.proofs.Common.{ap, ◌<◌, ℕ, length, subst, arith}
use Rattle.std.specs.List.{flat_map}
use Rattle.peer_packet.specs.Snapshot.{queue_bytes}
use Rattle.peer_packet.proofs.PutLaws.{Puts-of}
use Rattle.peer_queue.specs.Room.{QueueInRoom}
use Rattle.peer_slots.specs.Queues.{queues_of}
use Rattle.peer_handing.specs.Handing.{handed_of}
use Rattle.peer_handing.proofs.BySlot.{bytes-room, puts-on}
use Rattle.peer_handing.proofs.slots.put_slots.Goals as goal

pub put_slot-behind-requires : goal.put_slot-behind-requires
put_slot-behind-requires c =
    let s = queues_of c.args.queues.now in
    let less = subst (λ (n : ℕ). c.loop-slot.slot < n) c.slots-slot-end.ensures c.loop-slot-test.true in
    let fits = bytes-room c.args.from s.queues s.slots c.loop-slot.slot less in
    let here = ap (λ (q : QueueInRoom). length (flat_map queue_bytes (handed_of c.args.from q.queue))) c.get.ensures in
    let place = c.loop-slot.invariant.place in
    let same = c.loop-slot.invariant.same in
    let room = c.requires in
    omega arith

pub loop-slot-preserved : goal.loop-slot-preserved
loop-slot-preserved c =
    let s = queues_of c.args.queues.now in
    let here = ap (λ (q : QueueInRoom). flat_map queue_bytes (handed_of c.args.from q.queue)) c.get.ensures in
    puts-on c.args.from s.queues c.loop-slot.slot c.args.out.now c.loop-slot.out c.put_slot-behind.new.out c.args.at c.loop-slot.behind c.put_slot-behind.result c.loop-slot.invariant (Puts-of here c.put_slot-behind.ensures)
