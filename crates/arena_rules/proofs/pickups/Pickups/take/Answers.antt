use Rattle.std.proofs.Common.{sym, ◌∙◌, ap}
use Rattle.match_setup.specs.Setup.{spot_cell}
use Rattle.arena_rules.specs.Pickup.{taken}
use Rattle.arena_rules.specs.Kept.{emptied_at}
use Rattle.arena_rules.proofs.Changes.{refill-map}
use Rattle.arena_rules.proofs.Ready.{no_kind, taken-none}
use Rattle.arena_rules.proofs.Restings.{AreResting-map, Rests-emptied, taken-seen}
use Rattle.arena_rules.proofs.pickups.Pickups.take.Goals as goal

pub returns-else-is_some : goal.returns-else-is_some
returns-else-is_some c =
    sym (taken-none _ _ (sym c.requires ∙ no_kind c.args.kind (sym c.is_some.ensures ∙ c.if-is_some.false)))

pub invariant_of-self : goal.invariant_of-self
invariant_of-self c =
    let beats = c.self.inside.beats in
    let cell = spot_cell c.args.spot in
    rw (c.take_each.ensures, c.deref_mut.ensures.value, refill-map c.self.inside.list.items (emptied_at beats cell))
    (AreResting-map beats beats (emptied_at beats cell) c.self.inside.list.items c.self.inside.numbers (Rests-emptied beats cell) c.self.invariant.room c.self.invariant)

pub returns-then-is_some : goal.returns-then-is_some
returns-then-is_some c =
    let beats = c.self.inside.beats in
    let cell = spot_cell c.args.spot in
    rw (c.take_each.ensures, c.deref_mut.ensures.value, refill-map c.self.inside.list.items (emptied_at beats cell))
    (taken-seen beats cell c.self.inside.list.items ∙ ap (λ ps. taken ps cell) c.self.view_is)
