use Rattle.std.proofs.Common.{◌∙◌, arith}
use Rattle.peer_opening.proofs.Numbers.{numbered-none, pushed-next}
use Rattle.peer_opening.proofs.arriving.push_slot.Goals as goal

pub loop-place-init : goal.loop-place-init
loop-place-init c = record {
  items = numbered-none c.args.list.now.items c.args.slot c.args.queue.now.queue.kept;
  len = omega arith;
  capacity = omega arith;
}

pub loop-place-preserved : goal.loop-place-preserved
loop-place-preserved c =
    let h = c.loop-place.invariant in
    let q = c.args.queue.now.queue in
    let end = c.len-place-end.ensures in
    let test = c.loop-place-test.true in
    let push = c.push_reserved.ensures in
    record {
      items = pushed-next c.args.slot q.kept c.loop-place.place q.commands c.args.list.now.items c.loop-place.list.items c.push_reserved.new.self.items c.time.result c.kept-kept.result
          (omega arith) c.kept-kept.ensures c.time.ensures push.items h.items;
      len = (let a = push.len in let b = h.len in omega arith);
      capacity = push.capacity ∙ h.capacity;
    }
