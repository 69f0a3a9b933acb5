use Rattle.std.proofs.Common.{◌∙◌, ap}
use Rattle.game_trait.specs.Shifted.{ShiftedWorld}
use Rattle.sync_model.proofs.Forgotten.{left-worlds}
use Rattle.rolling_mirror.proofs.Told.{copy-world}
use Rattle.rolling_mirror.proofs.rolling.RollingMirror.world.Goals as goal

pub returns-clause-world : goal.returns-clause-world
returns-clause-world g c =
    rw (← c.self.view_is)
    (c.into_world.ensures ∙ ap (λ (w : ShiftedWorld _). w.world) c.made_world.ensures
    ∙ copy-world g.G.Game.rules c.self.inside.stack.opening c.self.inside.base c.self.inside.stack.accepted c.self.inside.stack.runs c.self.invariant.told_from
    c.always.ensures.trailing c.self.invariant.due_in_session c.args.copy)

pub returns-clause-window : goal.returns-clause-window
returns-clause-window g c = λ whole h.
    returns-clause-world g c
    ∙ left-worlds g.G.Game.rules c.args.self.now.base whole c.args.self.now.left c.args.copy h c.requires
