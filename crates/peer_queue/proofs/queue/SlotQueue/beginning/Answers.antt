use Rattle.std.proofs.Common.{ap, map, arith}
use Rattle.peer_queue.specs.Room.{sent_of}
use Rattle.peer_queue.proofs.Rooms.{room-none}
use Rattle.peer_queue.proofs.queue.SlotQueue.beginning.Goals as goal

pub invariant_of-result : goal.invariant_of-result
invariant_of-result c =
    let kept = c.ranges.kept.fits in
    let exact = c.in_ok-with_capacity.ensures.exact in
    let items = ap (map sent_of) c.in_ok-with_capacity.ensures.items in
    rw items (room-none c.args.kept c.args.gone c.args.late c.args.room _ (omega arith) c.requires.room (omega arith) c.requires.late c.requires.nothing_gone)
