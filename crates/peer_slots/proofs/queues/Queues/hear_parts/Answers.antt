use Rattle.std.proofs.Common.{subst, List}
use Rattle.peer_packet.specs.Packet as wire
use Rattle.peer_slots.specs.Queues.{queues_of, ArePartsFrom}
use Rattle.peer_slots.proofs.Parted.{first-part, hears-next, hears-end}
use Rattle.peer_slots.proofs.queues.Queues.hear_parts.Goals as goal

pub hear_part-requires-clause-sent : goal.hear_part-requires-clause-sent
hear_part-requires-clause-sent g c =
    let h = c.loop-part.invariant in
    let slots = (queues_of c.args.self.now).slots in
    (first-part slots h.least c.in-Some.part c.next.new.self (subst (λ (l : List wire.Part). ArePartsFrom slots h.least l) c.in-Some.ensures h.from)).sent

pub loop-part-preserved : goal.loop-part-preserved
loop-part-preserved g c =
    let one = c.hear_part.ensures in
    hears-next _ _ _ _ c.loop-part.left c.in-Some.part c.next.new.self (queues_of c.loop-part.self) (queues_of c.hear_part.new.self) c.loop-part.mirror c.hear_part.new.mirror c.loop-part.told c.hear_part.new.told
    c.always.ensures.slots c.in-Some.ensures c.loop-part.invariant
    (record { queues = one.queues; mirror = one.mirror; told = one.told; taken = one.few.0; late = one.few.1 })

pub returns-clause-heard : goal.returns-clause-heard
returns-clause-heard g c = λ known heard.
    (hears-end _ _ _ _ c.loop-part.left (queues_of c.loop-part.self) c.loop-part.mirror c.loop-part.told (rw c.in_default.is at c.next.ensures).0 c.loop-part.invariant known heard).0

pub returns-clause-told : goal.returns-clause-told
returns-clause-told g c = λ known heard.
    (hears-end _ _ _ _ c.loop-part.left (queues_of c.loop-part.self) c.loop-part.mirror c.loop-part.told (rw c.in_default.is at c.next.ensures).0 c.loop-part.invariant known heard).1
