use Rattle.std.proofs.Common.{ap, ◌∙◌, ◌+◌, map}
use Rattle.peer_queue.specs.Room.{sent_of}
use Rattle.peer_queue.proofs.Rooms.{map-tail, last-one, room-drop}
use Rattle.peer_queue.proofs.queue.SlotQueue.forget_first.Goals as goal

pub invariant_of-self : goal.invariant_of-self
invariant_of-self c =
    let inside = c.self.inside in
    let some = rw (← c.self.view_is) at c.requires.some in
    let first = rw (← c.self.view_is) at c.requires.first in
    let items = ap (map sent_of) c.pop_front-gone.ensures.rest ∙ map-tail inside.commands.items in
    rw items (room-drop inside.kept inside.gone inside.late c.args.time (map sent_of inside.commands.items) inside.room _ _ c.self.invariant c.pop_front-gone.ensures.capacity some first)

pub returns : goal.returns
returns c =
    let inside = c.self.inside in
    let some = rw (← c.self.view_is) at c.requires.some in
    let first = rw (← c.self.view_is) at c.requires.first in
    let items = ap (map sent_of) c.pop_front-gone.ensures.rest ∙ map-tail inside.commands.items in
    let gone = last-one inside.gone c.args.time (map sent_of inside.commands.items) some first in
    rw (← c.self.view_is) (λ i. record { queue = record { kept = inside.kept + 1; gone = gone i; commands = items i; late = inside.late }; room = inside.room })
