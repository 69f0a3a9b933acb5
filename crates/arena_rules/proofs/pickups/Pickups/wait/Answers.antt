use Rattle.std.proofs.Common.{◌∙◌, ap, map, arith}
use Rattle.arena_rules.specs.Pickup.{waited}
use Rattle.arena_rules.specs.Kept.{counted_anew}
use Rattle.arena_rules.proofs.Changes.{refill-map}
use Rattle.arena_rules.proofs.Restings.{AreResting-map, Rests-counted_anew, waited-seen, counted_anew-seen}
use Rattle.arena_rules.proofs.pickups.Pickups.wait.Goals as goal

pub returns-then-self-lt-MOST_BEATS : goal.returns-then-self-lt-MOST_BEATS
returns-then-self-lt-MOST_BEATS c = waited-seen c.self.inside.beats c.self.inside.list.items ∙ ap (map waited) c.self.view_is

pub invariant_of-self-2 : goal.invariant_of-self-2
invariant_of-self-2 c =
    let beats = c.self.inside.beats in
    rw (c.count_anew.ensures, c.deref_mut.ensures.value, refill-map c.self.inside.list.items (counted_anew beats))
    (AreResting-map beats 1 (counted_anew beats) c.self.inside.list.items c.self.inside.numbers (Rests-counted_anew beats) (omega arith) c.self.invariant)

pub returns : goal.returns
returns c =
    let beats = c.self.inside.beats in
    rw (c.count_anew.ensures, c.deref_mut.ensures.value, refill-map c.self.inside.list.items (counted_anew beats))
    (counted_anew-seen beats c.self.inside.list.items ∙ ap (map waited) c.self.view_is)
