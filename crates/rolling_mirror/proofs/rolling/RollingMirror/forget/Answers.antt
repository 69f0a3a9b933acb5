use Rattle.std.proofs.Common.{◌+◌, ◌^◌, ◌<◌, refl, arith}
use Rattle.sync_model.specs.State.{last_clock}
use Rattle.rolling_mirror.proofs.Kept.{trailing-of, behind-of, last-behind, renamed-room, rolling-rolled}
use Rattle.rolling_mirror.proofs.Told.{last-world, start-short}
use Rattle.rolling_mirror.proofs.Windows.{rolled-window}
use Rattle.rolling_mirror.proofs.rolling.RollingMirror.forget.Goals as goal

pub rename-requires-clause-room : goal.rename-requires-clause-room
rename-requires-clause-room g c =
    rw (c.accepted.ensures, c.forget.ensures) (renamed-room c.self.invariant _)

pub invariant_of-self : goal.invariant_of-self
invariant_of-self g c =
    let passed = rw (← c.self.view_is) at c.last_clock-passed.ensures.clock in
    let behind = last-behind c.self.invariant in
    let fits = c.self.invariant.within_session in
    let within : c.self.inside.base + last_clock c.self.inside.stack.runs < 2 ^ 32 = omega arith in
    let short = start-short (c.self.inside.base + last_clock c.self.inside.stack.runs) within in
    let told =
    last-world g.G.Game.rules c.self.inside.stack.opening c.self.inside.base c.self.inside.stack.accepted c.self.inside.stack.runs c.self.invariant.told_from
    c.always.ensures.trailing c.self.invariant.due_in_session c.self.invariant.some_copy in
    rw (c.rename.ensures, c.accepted.ensures, c.forget.ensures, passed, told, short)
    (rolling-rolled c.self.invariant g.G.Game.rules c.always.ensures.trailing)

pub returns-clause-state : goal.returns-clause-state
returns-clause-state g c =
    let passed = rw (← c.self.view_is) at c.last_clock-passed.ensures.clock in
    let behind = last-behind c.self.invariant in
    let fits = c.self.invariant.within_session in
    let within : c.self.inside.base + last_clock c.self.inside.stack.runs < 2 ^ 32 = omega arith in
    let short = start-short (c.self.inside.base + last_clock c.self.inside.stack.runs) within in
    let told =
    last-world g.G.Game.rules c.self.inside.stack.opening c.self.inside.base c.self.inside.stack.accepted c.self.inside.stack.runs c.self.invariant.told_from
    c.always.ensures.trailing c.self.invariant.due_in_session c.self.invariant.some_copy in
    rw (← c.self.view_is, c.forget.ensures, passed, told) refl

pub returns-clause-window : goal.returns-clause-window
returns-clause-window g c =
    rolled-window g.G.Game.rules _ _ (trailing-of c.self.view_is c.always.ensures.trailing)
    (behind-of c.self.view_is (last-behind c.self.invariant)) (returns-clause-state g c)
