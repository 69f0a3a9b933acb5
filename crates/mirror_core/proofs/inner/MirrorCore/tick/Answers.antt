use Rattle.std.proofs.Common.{◌≡◌, true, false, sym, arith}
use Rattle.sync_model.specs.Schedule.{is_at_end}
use Rattle.sync_model.proofs.Answered.{tick_over, tick_moved}
use Rattle.mirror_core.proofs.Calls.{clock-fits, note-moved}
use Rattle.mirror_core.proofs.Kept.{kept_moved}
use Rattle.mirror_core.proofs.inner.MirrorCore.tick.Goals as goal

pub returns-then-at_end-clause-state : goal.returns-then-at_end-clause-state
returns-then-at_end-clause-state g c =
    let at : true ≡ is_at_end c.stagger.result c.self.inside.clock = c.if-at_end.ensures in
    let over = rw (c.stagger.ensures.schedule, ← c.self.view_is) at at in
    rw (← c.self.view_is) (sym (tick_over _ (sym over)).0)

pub returns-then-at_end-clause-answer : goal.returns-then-at_end-clause-answer
returns-then-at_end-clause-answer g c =
    let at : true ≡ is_at_end c.stagger.result c.self.inside.clock = c.if-at_end.ensures in
    let over = rw (c.stagger.ensures.schedule, ← c.self.view_is) at at in
    rw (← c.self.view_is) (tick_over _ (sym over)).1

pub overflow_add-self : goal.overflow_add-self
overflow_add-self g c = (let small = clock-fits c.self.invariant in omega arith)

pub push_reserved-requires : goal.push_reserved-requires
push_reserved-requires g c =
    let at : false ≡ is_at_end c.stagger.result c.self.inside.clock = c.if-at_end.ensures in
    let more = rw (c.stagger.ensures.schedule, ← c.self.view_is) at at in
    let fits = note-moved c.self.invariant (sym more) in
    let len = c.self.inside.history.ok.0 in
    omega arith

pub invariant_of-self : goal.invariant_of-self
invariant_of-self g c =
    let at : false ≡ is_at_end c.stagger.result c.self.inside.clock = c.if-at_end.ensures in
    let more = rw (c.stagger.ensures.schedule, ← c.self.view_is) at at in
    rw (c.push_reserved.ensures.items, c.push_reserved.ensures.capacity)
    (kept_moved c.self.invariant (sym more))

pub returns-clause-state : goal.returns-clause-state
returns-clause-state g c =
    let at : false ≡ is_at_end c.stagger.result c.self.inside.clock = c.if-at_end.ensures in
    let more = rw (c.stagger.ensures.schedule, ← c.self.view_is) at at in
    rw (← c.self.view_is, c.push_reserved.ensures.items) (sym (tick_moved _ (sym more)).0)

pub returns-clause-answer : goal.returns-clause-answer
returns-clause-answer g c =
    let at : false ≡ is_at_end c.stagger.result c.self.inside.clock = c.if-at_end.ensures in
    let more = rw (c.stagger.ensures.schedule, ← c.self.view_is) at at in
    rw (← c.self.view_is) (tick_moved _ (sym more)).1
