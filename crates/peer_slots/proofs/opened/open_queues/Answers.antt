use Rattle.std.proofs.Common.{arith}
use Rattle.peer_slots.specs.Opened.{all_taken}
use Rattle.peer_slots.proofs.Opens.{handed-at, opening-on, opening-done}
use Rattle.peer_slots.proofs.opened.open_queues.Goals as goal

pub open_next-requires-clause-handed : goal.open_next-requires-clause-handed
open_next-requires-clause-handed c =
    handed-at c.args.room c.args.have.now c.loop-count.left c.loop-count.count-index c.loop-count-test.true c.loop-count.invariant.opening.handed

pub loop-count-preserved : goal.loop-count-preserved
loop-count-preserved c =
    let room = c.args.room in
    let have = c.args.have.now in
    let h = c.loop-count.invariant in
    record {
      opening = opening-on room (all_taken room have c.args.queues) c.loop-count.list.items c.push_reserved.new.self.items have c.loop-count.count-index c.loop-count.left c.open_next.new.left c.in_ok-open_next.field-0
          c.loop-count-test.true c.push_reserved.ensures.items c.in_ok-open_next.ensures.queue c.in_ok-open_next.ensures.left h.opening;
      len = omega (arith, c.push_reserved.ensures.len, h.len);
      capacity = omega (arith, c.push_reserved.ensures.capacity, h.capacity);
    }

pub returns : goal.returns
returns c =
    opening-done c.args.room (all_taken c.args.room c.args.have.now c.args.queues) c.loop-count.list.items c.args.have.now c.loop-count.count-index c.loop-count.left c.loop-count-test.false c.loop-count.invariant.opening
