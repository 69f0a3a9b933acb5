use Rattle.std.proofs.Common.{◌≡◌, ◌∙◌, sym, true, false, [], ◌∷◌, arith, length-append}
use Rattle.std.specs.List.{list_any}
use Rattle.game_trait.specs.Keys.{same_name}
use Rattle.game_trait.specs.NameTree.{has_name}
use Rattle.game_trait.proofs.CommandLists.{not-so, is-so}
use Rattle.sync_model.proofs.Answered.{arrive_repeat, arrive_taken}
use Rattle.mirror_core.proofs.Calls.{on-time, has-push}
use Rattle.mirror_core.proofs.Kept.{kept_taken, small-numbers}
use Rattle.mirror_core.proofs.inner.MirrorCore.arrive.Goals as goal

pub renew_due-requires-clause-as_many : goal.renew_due-requires-clause-as_many
renew_due-requires-clause-as_many g c = c.self.invariant.epochs.as_many

pub renew_due-requires-clause-small : goal.renew_due-requires-clause-small
renew_due-requires-clause-small g c = small-numbers c.self.invariant

pub accept-repaired-requires-clause-new_name : goal.accept-repaired-requires-clause-new_name
unfolding same_name
accept-repaired-requires-clause-new_name g c =
    let x = c.args.x.now in
    let told = c.if-insert_reserved.ensures.added in
    sym (c.self.invariant.names x.from x.number) ∙ not-so (has_name c.self.inside.names.items x.from x.number) told

pub invariant_of-self : goal.invariant_of-self
unfolding same_name
invariant_of-self g c =
    let x = c.args.x.now in
    let told = c.if-insert_reserved.ensures.added in
    let fresh = not-so (has_name c.self.inside.names.items x.from x.number) told in
    let new : list_any (same_name x) c.self.inside.stack.accepted ≡ false =
    sym (c.self.invariant.names x.from x.number) ∙ fresh in
    let bound = rw (← c.self.view_is) at c.last_clock-bound.ensures in
    let within = rw (← c.self.view_is) at c.requires.within_match in
    let spare = rw (← c.self.view_is) at c.requires.room in
    let longer = length-append c.self.inside.names.items ((x.from, x.number) ∷ []) in
    rw (
      c.accept-repaired.ensures.state,
      c.push_reserved.ensures.items,
      c.push_reserved.ensures.capacity,
      c.insert_reserved.ensures.new fresh,
    )
    (kept_taken c.self.invariant x c.from.result _ _ _ within spare new (on-time c.self.invariant x c.last_clock-bound.result bound c.if-x-bound.false)
    (c.from.ensures ∙ c.accept-repaired.ensures.repaired)
    (has-push c.self.inside.names.items c.self.inside.stack.accepted x c.self.invariant.names)
    (omega arith) c.renew_due.ensures)

pub returns-then-insert_reserved-clause-state : goal.returns-then-insert_reserved-clause-state
unfolding same_name
returns-then-insert_reserved-clause-state g c =
    let x = c.args.x.now in
    let told = c.if-insert_reserved.ensures.added in
    let fresh = not-so (has_name c.self.inside.names.items x.from x.number) told in
    let new : list_any (same_name x) c.self.inside.stack.accepted ≡ false =
    sym (c.self.invariant.names x.from x.number) ∙ fresh in
    let bound = rw (← c.self.view_is) at c.last_clock-bound.ensures in
    rw (← c.self.view_is, c.accept-repaired.ensures.state, c.push_reserved.ensures.items)
    (sym (arrive_taken _ x new (on-time c.self.invariant x c.last_clock-bound.result bound c.if-x-bound.false)).0)

pub returns-then-insert_reserved-clause-answer : goal.returns-then-insert_reserved-clause-answer
unfolding same_name
returns-then-insert_reserved-clause-answer g c =
    let x = c.args.x.now in
    let told = c.if-insert_reserved.ensures.added in
    let fresh = not-so (has_name c.self.inside.names.items x.from x.number) told in
    let new : list_any (same_name x) c.self.inside.stack.accepted ≡ false =
    sym (c.self.invariant.names x.from x.number) ∙ fresh in
    let bound = rw (← c.self.view_is) at c.last_clock-bound.ensures in
    rw (← c.self.view_is, c.accept-repaired.ensures.repaired)
    (arrive_taken _ x new (on-time c.self.invariant x c.last_clock-bound.result bound c.if-x-bound.false)).1

pub returns-clause-state : goal.returns-clause-state
unfolding same_name
returns-clause-state g c =
    let x = c.args.x.now in
    let told = c.if-insert_reserved.ensures.added in
    let here = is-so (has_name c.self.inside.names.items x.from x.number) told in
    let again : list_any (same_name x) c.self.inside.stack.accepted ≡ true =
    sym (c.self.invariant.names x.from x.number) ∙ here in
    rw (← c.self.view_is) (sym (arrive_repeat _ x again).0)

pub returns-clause-answer : goal.returns-clause-answer
unfolding same_name
returns-clause-answer g c =
    let x = c.args.x.now in
    let told = c.if-insert_reserved.ensures.added in
    let here = is-so (has_name c.self.inside.names.items x.from x.number) told in
    let again : list_any (same_name x) c.self.inside.stack.accepted ≡ true =
    sym (c.self.invariant.names x.from x.number) ∙ here in
    rw (← c.self.view_is) (arrive_repeat _ x again).1
