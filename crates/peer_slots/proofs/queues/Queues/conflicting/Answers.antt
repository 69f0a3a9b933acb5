use Rattle.std.proofs.Common.{◌+◌, ap, sym, subst, ◌∙◌, List, Some, map}
use Rattle.peer_packet.specs.declared.part.PartHead.{PartHead}
use Rattle.peer_packet.specs.Packet as wire
use Rattle.peer_calls.specs.Wire.{part_from}
use Rattle.peer_slots.specs.Queues.{queues_of, ArePartsFrom, first_conflict}
use Rattle.peer_slots.proofs.Parted.{first-part, conflict-here, conflict-later}
use Rattle.peer_slots.proofs.queues.Queues.conflicting.Goals as goal

pub returns-then-conflicts : goal.returns-then-conflicts
returns-then-conflicts c =
    let q = (queues_of c.args.self.now).queues in
    let left = ap (λ (l : List wire.Part). first_conflict (map part_from l) q) c.in-Some.ensures in
    let here = conflict-here (part_from c.in-Some.part) (map part_from c.next.new.self) q (sym c.conflicts.ensures ∙ c.if-conflicts.true) in
    ap (λ (h : PartHead). Some h.origin) c.head.ensures ∙ sym here ∙ sym left ∙ c.loop-part.invariant.0

pub loop-part-preserved : goal.loop-part-preserved
loop-part-preserved c =
    let q = (queues_of c.args.self.now).queues in
    let slots = (queues_of c.args.self.now).slots in
    let h = c.loop-part.invariant in
    let left = ap (λ (l : List wire.Part). first_conflict (map part_from l) q) c.in-Some.ensures in
    let later = conflict-later (part_from c.in-Some.part) (map part_from c.next.new.self) q (sym c.conflicts.ensures ∙ c.if-conflicts.false) in
    let first = first-part slots h.1.0 c.in-Some.part c.next.new.self (subst (λ (l : List wire.Part). ArePartsFrom slots h.1.0 l) c.in-Some.ensures h.1.1) in
    (sym later ∙ sym left ∙ h.0, (c.in-Some.part.origin + 1, first.rest))
