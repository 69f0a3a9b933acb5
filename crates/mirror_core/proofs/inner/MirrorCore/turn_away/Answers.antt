use Rattle.std.proofs.Common.{◌≡◌, ◌∙◌, ap, sym, ℕ, true, false}
use Rattle.std.specs.List.{list_any}
use Rattle.game_trait.specs.Keys.{same_name}
use Rattle.game_trait.specs.declared.event.Reply.TheVariants.{Arrive as ToArrive}
use Rattle.game_trait.specs.declared.event.Arrived.TheVariants.{Late}
use Rattle.sync_model.proofs.Answered.{arrive_repeat, arrive_late}
use Rattle.mirror_core.proofs.Calls.{late-at}
use Rattle.mirror_core.proofs.Kept.{kept_away}
use Rattle.mirror_core.proofs.inner.MirrorCore.turn_away.Goals as goal

pub returns-then-has-clause-state : goal.returns-then-has-clause-state
unfolding same_name
returns-then-has-clause-state g c =
    let x = c.args.x.now in
    let again : list_any (same_name x) c.self.inside.stack.accepted ≡ true =
    sym (c.if-has.ensures ∙ c.self.invariant.names x.from x.number) in
    rw (← c.self.view_is) (sym (arrive_repeat _ x again).0)

pub returns-then-has-clause-answer : goal.returns-then-has-clause-answer
unfolding same_name
returns-then-has-clause-answer g c =
    let x = c.args.x.now in
    let again : list_any (same_name x) c.self.inside.stack.accepted ≡ true =
    sym (c.if-has.ensures ∙ c.self.invariant.names x.from x.number) in
    rw (← c.self.view_is) (arrive_repeat _ x again).1

pub invariant_of-self : goal.invariant_of-self
unfolding same_name
invariant_of-self g c =
    let x = c.args.x.now in
    let new : list_any (same_name x) c.self.inside.stack.accepted ≡ false =
    sym (c.if-has.ensures ∙ c.self.invariant.names x.from x.number) in
    let bound = rw (← c.self.view_is) at c.requires.bound in
    let within = rw (← c.self.view_is) at c.requires.within_match in
    let spare = rw (← c.self.view_is) at c.requires.room in
    rw (
      c.push_reserved-2.ensures.items,
      c.push_reserved.ensures.items,
      c.push_reserved-2.ensures.capacity,
      c.push_reserved.ensures.capacity,
      bound,
    )
    (kept_away c.self.invariant x within spare new (late-at c.self.invariant x c.args.bound bound c.requires.late))

pub returns-clause-state : goal.returns-clause-state
unfolding same_name
returns-clause-state g c =
    let x = c.args.x.now in
    let new : list_any (same_name x) c.self.inside.stack.accepted ≡ false =
    sym (c.if-has.ensures ∙ c.self.invariant.names x.from x.number) in
    let bound = rw (← c.self.view_is) at c.requires.bound in
    rw (
      ← c.self.view_is,
      c.push_reserved-2.ensures.items,
      c.push_reserved.ensures.items,
      bound,
    )
    (sym (arrive_late _ x new (late-at c.self.invariant x c.args.bound bound c.requires.late)).0)

pub returns-clause-answer : goal.returns-clause-answer
unfolding same_name
returns-clause-answer g c =
    let x = c.args.x.now in
    let new : list_any (same_name x) c.self.inside.stack.accepted ≡ false =
    sym (c.if-has.ensures ∙ c.self.invariant.names x.from x.number) in
    let bound = rw (← c.self.view_is) at c.requires.bound in
    rw (← c.self.view_is)
    ((arrive_late _ x new (late-at c.self.invariant x c.args.bound bound c.requires.late)).1
    ∙ ap (λ (n : ℕ). ToArrive (Late n)) (sym bound))
