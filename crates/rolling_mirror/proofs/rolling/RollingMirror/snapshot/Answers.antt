use Rattle.std.proofs.Common.{◌∙◌, ap, refl, sym, subst, length, ◌≤◌, ◌<◌, map, List}
use Rattle.game_trait.specs.declared.command.Command.{Command}
use Rattle.game_trait.specs.Later.{later}
use Rattle.rolling_mirror.specs.declared.handed.SessionSnapshot.{SessionSnapshot}
use Rattle.rolling_mirror.specs.Snapshot.{due_from, IsOpenable, IsSnapshotOf}
use Rattle.rolling_mirror.proofs.Kept.{trailing-of}
use Rattle.rolling_mirror.proofs.Joined.{handed-over, openable-of, snapshot-window}
use Rattle.rolling_mirror.proofs.rolling.RollingMirror.snapshot.Goals as goal

pub returns-clause-parts : goal.returns-clause-parts
returns-clause-parts g c =
    handed-over g.G.Game.rules _ _ _ _ _ _ c.self.view_is c.copies-last.ensures.copies
    (subst (λ r. 0 < length r.left.runs) c.self.view_is c.self.invariant.some_copy)
    c.last_clock-passed.ensures.clock refl refl c.world.ensures.world
    (c.of.ensures ∙ c.in_ok-commands.ensures
    ∙ ap (λ (xs : List Command). map (later c.self.inside.base) (due_from c.last_clock-passed.result xs)) c.accepted.ensures)

pub returns-clause-openable : goal.returns-clause-openable
returns-clause-openable g c = λ plans room ticks many enough.
    let is = returns-clause-parts g c in
    let few = subst (λ (snap : SessionSnapshot _). length snap.commands ≤ room) is enough in
    subst (λ (snap : SessionSnapshot _). IsOpenable snap plans room) (sym is)
    (openable-of g.G.Game.rules c.self.view_is c.self.invariant refl c.always.ensures.names c.always.ensures.due plans room ticks many few)

pub returns-clause-window : goal.returns-clause-window
returns-clause-window g c = λ whole h.
    let is = returns-clause-parts g c in
    subst (IsSnapshotOf g.G.Game.rules whole) (sym is)
    (snapshot-window g.G.Game.rules c.args.self.now (trailing-of c.self.view_is c.always.ensures.trailing) whole h)
