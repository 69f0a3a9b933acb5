use Rattle.std.proofs.Common.{ap, ◌+◌, ◌-◌, map, arith}
use Rattle.peer_queue.specs.Room.{sent_of}
use Rattle.peer_queue.proofs.Rooms.{room-none}
use Rattle.peer_queue.proofs.queue.SlotQueue.skip.Goals as goal

pub invariant_of-self : goal.invariant_of-self
invariant_of-self c =
    let inside = c.self.inside in
    let gap = rw (← c.self.view_is) at c.requires in
    let number = rw (← c.self.view_is) at c.have.ensures.number in
    let late = c.self.invariant.late in
    let fits = c.self.invariant.fits in
    let same = c.clear.ensures.capacity in
    let first = c.ranges.first.fits in
    let items = ap (map sent_of) c.clear.ensures.items in
    rw items (room-none c.args.first c.args.before (inside.late + (c.args.first - c.have.result)) inside.room _ (omega arith) c.self.invariant.in_reach (omega arith) (omega arith) (λ none. absurd (omega arith)))
