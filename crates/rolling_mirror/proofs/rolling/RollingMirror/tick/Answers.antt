use Rattle.std.proofs.Common.{◌∙◌, sym, subst}
use Rattle.rolling_mirror.specs.Rolling.{IsWindowOf}
use Rattle.rolling_mirror.proofs.Kept.{room-of, rolling-moved}
use Rattle.rolling_mirror.proofs.Windows.{after-tick, ticked-left, tick-window}
use Rattle.rolling_mirror.proofs.rolling.RollingMirror.tick.Goals as goal

pub invariant_of-self : goal.invariant_of-self
invariant_of-self g c =
    let room =
    room-of c.self.invariant g.G.Game.rules c.self.view_is (sym c.if-is_held.ensures) (c.self-2.view_is ∙ c.make_ready.ensures.state) in
    rolling-moved c.self-2.invariant room.0 room.1

pub returns-clause-state : goal.returns-clause-state
returns-clause-state g c =
    sym (ticked-left g.G.Game.rules _ _ (c.self-2.view_is ∙ c.make_ready.ensures.state) (sym c.if-is_held.ensures)
    ∙ after-tick _ c.self-2.invariant.within_window)

pub returns-clause-window : goal.returns-clause-window
returns-clause-window g c = λ whole h before moved.
    tick-window g.G.Game.rules _ _
    (returns-clause-state g c
    ∙ ticked-left g.G.Game.rules _ _ (c.self-2.view_is ∙ c.make_ready.ensures.state) (sym c.if-is_held.ensures))
    c.self-2.invariant.within_window whole
    (subst (IsWindowOf g.G.Game.rules whole) (sym c.self-2.view_is) (c.make_ready.ensures.window whole h)) before
