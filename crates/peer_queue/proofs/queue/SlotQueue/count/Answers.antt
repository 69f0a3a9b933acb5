use Rattle.std.proofs.Common.{ap, sym, ◌∙◌, ◌≡◌, ◌+◌, ◌++◌, ◌∷◌, ◌≤◌, [], map, arith}
use Rattle.peer_queue.specs.Room.{sent_of}
use Rattle.peer_queue.proofs.Rooms.{map-push, due-one, short-sent, room-push}
use Rattle.peer_queue.proofs.queue.SlotQueue.count.Goals as goal

pub invariant_of-self : goal.invariant_of-self
invariant_of-self c =
    let inside = c.self.inside in
    let x = c.args.x.now in
    let old = map sent_of inside.commands.items in
    let items : map sent_of c.push_back_reserved.new.self.items ≡ old ++ sent_of x ∷ [] =
    ap (map sent_of) c.push_back_reserved.ensures.items ∙ map-push inside.commands.items x in
    let one : c.one_if.result ≤ 1 = grind (arith, c.one_if.ensures) in
    rw items (room-push inside.kept inside.gone inside.late (inside.late + c.one_if.result) old (sent_of x) inside.room _ _ c.self.invariant c.push_back_reserved.ensures.capacity
    (rw (← c.self.view_is) at c.requires.room) (rw (← c.self.view_is) at c.requires.number) (omega arith) (rw (← c.self.view_is) at c.requires.rises) (short-sent x c.requires.short))

pub returns : goal.returns
returns c =
    let inside = c.self.inside in
    let x = c.args.x.now in
    let items : map sent_of c.push_back_reserved.new.self.items ≡ map sent_of inside.commands.items ++ sent_of x ∷ [] =
    ap (map sent_of) c.push_back_reserved.ensures.items ∙ map-push inside.commands.items x in
    let late = ap (λ n. inside.late + n) (c.one_if.ensures ∙ sym (due-one c.args.bound (sent_of x))) in
    rw (← c.self.view_is) (λ i. record { queue = record { kept = inside.kept; gone = inside.gone; commands = items i; late = late i }; room = inside.room })
