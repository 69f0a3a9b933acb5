use Rattle.std.proofs.Common.{◌+◌, length, ap, sym, ◌∙◌, arith, ◌++◌}
use Rattle.peer_model.specs.Peer.{numbered}
use Rattle.peer_queue.specs.Room.{QueueInRoom}
use Rattle.peer_slots.specs.Queues.{queues_of}
use Rattle.peer_opening.proofs.Numbers.{arriving-none, arriving-next, length-next, arriving-fewer}
use Rattle.peer_opening.proofs.arriving.arriving.Goals as goal

pub loop-slot-init : goal.loop-slot-init
loop-slot-init c =
    let q = queues_of c.args.queues.now in
    let none = arriving-none q.queues in
    record {
      items = c.in_ok-list.ensures.items ∙ sym none;
      len = c.in_ok-list.ensures.len ∙ sym (ap length none);
      capacity = (let a = c.in_ok-list.ensures.exact in let b = c.count_all.ensures in omega arith);
    }

pub push_slot-requires : goal.push_slot-requires
push_slot-requires c =
    let q = queues_of c.args.queues.now in
    let h = c.loop-slot.invariant in
    let len = h.len in
    let capacity = h.capacity in
    let end = c.slots-slot-end.ensures in
    let test = c.loop-slot-test.true in
    let next = length-next c.loop-slot.slot q.queues in
    let fewer = arriving-fewer (c.loop-slot.slot + 1) q.slots q.queues (omega arith) in
    let same = ap (λ (x : QueueInRoom). length x.queue.commands) c.get.ensures in
    omega arith

pub loop-slot-preserved : goal.loop-slot-preserved
loop-slot-preserved c =
    let q = queues_of c.args.queues.now in
    let h = c.loop-slot.invariant in
    let push = c.push_slot.ensures in
    record {
      items = push.items ∙ (λ i. h.items i ++ numbered c.loop-slot.slot (c.get.ensures i).queue.kept (c.get.ensures i).queue.commands) ∙ sym (arriving-next c.loop-slot.slot q.queues);
      len = push.len ∙ (λ i. h.len i + length (c.get.ensures i).queue.commands) ∙ sym (length-next c.loop-slot.slot q.queues);
      capacity = (let a = push.capacity in let b = h.capacity in omega arith);
    }
