use Rattle.std.proofs.Common.{sym}
use Rattle.rolling_mirror.proofs.Kept.{rolling-ran, within-of}
use Rattle.sync_model.proofs.Limits.{idle-at, runs-on, behind-ahead}
use Rattle.rolling_mirror.proofs.Windows.{after-idle, said-idle, after-step, said-step, step-window}
use Rattle.rolling_mirror.proofs.rolling.RollingMirror.step.Goals as goal

pub returns-then-clock-limit-clause-state : goal.returns-then-clock-limit-clause-state
returns-then-clock-limit-clause-state g c =
    let idle =
    idle-at _ c.args.copy c.clock.result c.limit.result c.clock.ensures
    (rw (← c.self.view_is) at c.limit.ensures) c.if-clock-limit.true in
    rw (← c.self.view_is) (sym (after-idle _ c.args.copy idle))

pub returns-then-clock-limit-clause-answer : goal.returns-then-clock-limit-clause-answer
returns-then-clock-limit-clause-answer g c =
    let idle =
    idle-at _ c.args.copy c.clock.result c.limit.result c.clock.ensures
    (rw (← c.self.view_is) at c.limit.ensures) c.if-clock-limit.true in
    rw (← c.self.view_is) (said-idle _ c.args.copy idle)

pub returns-then-clock-limit-clause-window : goal.returns-then-clock-limit-clause-window
returns-then-clock-limit-clause-window g c =
    step-window g.G.Game.rules _ _ c.args.copy _ (returns-then-clock-limit-clause-state g c)
    (returns-then-clock-limit-clause-answer g c)
    (within-of c.self.view_is c.self.invariant.within_window) c.requires

pub run_tick-repaired-requires-clause-behind : goal.run_tick-repaired-requires-clause-behind
run_tick-repaired-requires-clause-behind g c =
    let more =
    runs-on _ c.args.copy c.clock.result c.limit.result c.clock.ensures
    (rw (← c.self.view_is) at c.limit.ensures) c.if-clock-limit.false in
    behind-ahead _ c.args.copy more

pub invariant_of-self : goal.invariant_of-self
invariant_of-self g c =
    let more =
    runs-on _ c.args.copy c.clock.result c.limit.result c.clock.ensures
    (rw (← c.self.view_is) at c.limit.ensures) c.if-clock-limit.false in
    rw (c.run_tick-repaired.ensures.state)
    (rolling-ran c.self.invariant c.args.copy c.always.ensures.trailing more)

pub returns-clause-state : goal.returns-clause-state
returns-clause-state g c =
    let more =
    runs-on _ c.args.copy c.clock.result c.limit.result c.clock.ensures
    (rw (← c.self.view_is) at c.limit.ensures) c.if-clock-limit.false in
    rw (← c.self.view_is, c.run_tick-repaired.ensures.state) (sym (after-step _ c.args.copy more))

pub returns-clause-answer : goal.returns-clause-answer
returns-clause-answer g c =
    let more =
    runs-on _ c.args.copy c.clock.result c.limit.result c.clock.ensures
    (rw (← c.self.view_is) at c.limit.ensures) c.if-clock-limit.false in
    rw (← c.self.view_is, c.run_tick-repaired.ensures.repaired) (said-step _ c.args.copy more)

pub returns-clause-window : goal.returns-clause-window
returns-clause-window g c =
    step-window g.G.Game.rules _ _ c.args.copy _ (returns-clause-state g c) (returns-clause-answer g c)
    (within-of c.self.view_is c.self.invariant.within_window) c.requires
