use Rattle.std.proofs.Common.{refl, ◌∙◌, ap, sym, ◌+◌}
use Rattle.game_trait.specs.declared.command.Command.{Command}
use Rattle.rolling_mirror.specs.Rolling.{in_window}
use Rattle.rolling_mirror.proofs.Arrivals.{repeat-named, named-earlier, is-repeat, is-late, is-far, is-full, is-in, taken-state, arrival-window, exact-window, passed-window}
use Rattle.rolling_mirror.proofs.Kept.{within-of}
use Rattle.rolling_mirror.proofs.rolling.RollingMirror.arrive.Goals as goal

pub returns-then-has-clause-answer : goal.returns-then-has-clause-answer
returns-then-has-clause-answer g c =
    is-repeat c.self.view_is c.args.x.now (repeat-named _ c.args.x.now _ _ c.self.invariant.names_are c.if-has.ensures)

pub returns-then-has-clause-window : goal.returns-then-has-clause-window
returns-then-has-clause-window g c = λ whole h before known.
    arrival-window g.G.Game.rules c.args.self.now c.args.x.now (within-of c.self.view_is c.self.invariant.within_window) whole h before known
    _ _ (returns-then-has-clause-answer g c) refl

pub returns-then-x-bound-clause-answer : goal.returns-then-x-bound-clause-answer
returns-then-x-bound-clause-answer g c =
    let new = repeat-named _ c.args.x.now _ _ c.self.invariant.names_are c.if-has.ensures in
    let last = rw (← c.self.view_is) at c.last_clock.ensures.clock in
    (is-late c.self.view_is c.args.x.now _ (ap (λ n. c.self.inside.base + n) last) new c.if-x-bound.true)

pub returns-then-x-bound-clause-window : goal.returns-then-x-bound-clause-window
returns-then-x-bound-clause-window g c = λ whole h before known.
    arrival-window g.G.Game.rules c.args.self.now c.args.x.now (within-of c.self.view_is c.self.invariant.within_window) whole h before known
    _ _ (returns-then-x-bound-clause-answer g c) refl

pub returns-then-due-window-clause-answer : goal.returns-then-due-window-clause-answer
returns-then-due-window-clause-answer g c =
    let new = repeat-named _ c.args.x.now _ _ c.self.invariant.names_are c.if-has.ensures in
    let last = rw (← c.self.view_is) at c.last_clock.ensures.clock in
    let stagger = rw (← c.self.view_is) at c.stagger.ensures.schedule in
    let time = ap (λ (y : Command). y.time) c.earlier-due.ensures in
    (is-far c.self.view_is c.args.x.now _ c.length-window.result (ap (λ n. c.self.inside.base + n) last)
    (c.length-window.ensures.length ∙ ap (λ s. s.length) stagger) new c.if-x-bound.false (rw time at c.if-due-window.true))

pub returns-then-spare-eq0-clause-answer : goal.returns-then-spare-eq0-clause-answer
returns-then-spare-eq0-clause-answer g c =
    let new = repeat-named _ c.args.x.now _ _ c.self.invariant.names_are c.if-has.ensures in
    let last = rw (← c.self.view_is) at c.last_clock.ensures.clock in
    let stagger = rw (← c.self.view_is) at c.stagger.ensures.schedule in
    let time = ap (λ (y : Command). y.time) c.earlier-due.ensures in
    (is-full c.self.view_is c.args.x.now _ c.length-window.result (ap (λ n. c.self.inside.base + n) last)
    (c.length-window.ensures.length ∙ ap (λ s. s.length) stagger) new c.if-x-bound.false (rw time at c.if-due-window.false)
    (sym c.spare.ensures ∙ c.if-spare-eq0.true))

pub accept-requires-clause-new_name : goal.accept-requires-clause-new_name
accept-requires-clause-new_name g c =
    let new = repeat-named _ c.args.x.now _ _ c.self.invariant.names_are c.if-has.ensures in
    rw (← c.self.view_is, c.earlier-due.ensures) (named-earlier c.self.inside.stack.accepted c.self.inside.base c.args.x.now ∙ new)

pub returns-clause-answer : goal.returns-clause-answer
returns-clause-answer g c =
    let new = repeat-named _ c.args.x.now _ _ c.self.invariant.names_are c.if-has.ensures in
    let last = rw (← c.self.view_is) at c.last_clock.ensures.clock in
    let stagger = rw (← c.self.view_is) at c.stagger.ensures.schedule in
    let time = ap (λ (y : Command). y.time) c.earlier-due.ensures in
    c.accept.ensures.answer
    ∙ (is-in c.self.view_is c.args.x.now _ c.length-window.result (ap (λ n. c.self.inside.base + n) last)
    (c.length-window.ensures.length ∙ ap (λ s. s.length) stagger) new c.if-x-bound.false _ c.earlier-due.ensures (rw time at c.if-due-window.false)
    (λ none. c.if-spare-eq0.false (c.spare.ensures ∙ none)))

pub returns-clause-window : goal.returns-clause-window
returns-clause-window g c = λ whole h before known.
    arrival-window g.G.Game.rules c.args.self.now c.args.x.now (within-of c.self.view_is c.self.invariant.within_window) whole h before known
    _ _ (returns-clause-answer g c)
    (taken-state _ _ c.args.x.now _ _ _ c.accept.ensures.answer
    (c.earlier-due.ensures ∙ ap (λ r. in_window r c.args.x.now) c.self.view_is) c.accept.ensures.state)

pub returns-then-has-clause-passed : goal.returns-then-has-clause-passed
returns-then-has-clause-passed g c = λ whole h past.
    passed-window g.G.Game.rules c.args.self.now c.args.x.now whole h past _ _ (returns-then-has-clause-answer g c) refl

pub returns-then-x-bound-clause-passed : goal.returns-then-x-bound-clause-passed
returns-then-x-bound-clause-passed g c = λ whole h past.
    passed-window g.G.Game.rules c.args.self.now c.args.x.now whole h past _ _ (returns-then-x-bound-clause-answer g c) refl

pub returns-then-due-window-clause-passed : goal.returns-then-due-window-clause-passed
returns-then-due-window-clause-passed g c = λ whole h past.
    passed-window g.G.Game.rules c.args.self.now c.args.x.now whole h past _ _ (returns-then-due-window-clause-answer g c) refl

pub returns-then-spare-eq0-clause-passed : goal.returns-then-spare-eq0-clause-passed
returns-then-spare-eq0-clause-passed g c = λ whole h past.
    passed-window g.G.Game.rules c.args.self.now c.args.x.now whole h past _ _ (returns-then-spare-eq0-clause-answer g c) refl

pub returns-clause-passed : goal.returns-clause-passed
returns-clause-passed g c = λ whole h past.
    passed-window g.G.Game.rules c.args.self.now c.args.x.now whole h past _ _ (returns-clause-answer g c)
    (taken-state _ _ c.args.x.now _ _ _ c.accept.ensures.answer
    (c.earlier-due.ensures ∙ ap (λ r. in_window r c.args.x.now) c.self.view_is) c.accept.ensures.state)

pub returns-then-has-clause-exact : goal.returns-then-has-clause-exact
returns-then-has-clause-exact g c = λ whole h before.
    exact-window g.G.Game.rules c.args.self.now c.args.x.now (within-of c.self.view_is c.self.invariant.within_window) whole h before
    _ _ (returns-then-has-clause-answer g c) refl

pub returns-then-x-bound-clause-exact : goal.returns-then-x-bound-clause-exact
returns-then-x-bound-clause-exact g c = λ whole h before.
    exact-window g.G.Game.rules c.args.self.now c.args.x.now (within-of c.self.view_is c.self.invariant.within_window) whole h before
    _ _ (returns-then-x-bound-clause-answer g c) refl

pub returns-then-due-window-clause-exact : goal.returns-then-due-window-clause-exact
returns-then-due-window-clause-exact g c = λ whole h before.
    exact-window g.G.Game.rules c.args.self.now c.args.x.now (within-of c.self.view_is c.self.invariant.within_window) whole h before
    _ _ (returns-then-due-window-clause-answer g c) refl

pub returns-then-spare-eq0-clause-exact : goal.returns-then-spare-eq0-clause-exact
returns-then-spare-eq0-clause-exact g c = λ whole h before.
    exact-window g.G.Game.rules c.args.self.now c.args.x.now (within-of c.self.view_is c.self.invariant.within_window) whole h before
    _ _ (returns-then-spare-eq0-clause-answer g c) refl

pub returns-clause-exact : goal.returns-clause-exact
returns-clause-exact g c = λ whole h before.
    exact-window g.G.Game.rules c.args.self.now c.args.x.now (within-of c.self.view_is c.self.invariant.within_window) whole h before
    _ _ (returns-clause-answer g c)
    (taken-state _ _ c.args.x.now _ _ _ c.accept.ensures.answer
    (c.earlier-due.ensures ∙ ap (λ r. in_window r c.args.x.now) c.self.view_is) c.accept.ensures.state)
