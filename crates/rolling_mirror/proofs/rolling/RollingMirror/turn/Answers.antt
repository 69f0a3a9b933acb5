use Rattle.std.proofs.Common.{◌∙◌, ap, arith}
use Rattle.game_trait.specs.declared.event.Reply.TheVariants.{Tick as ToTick}
use Rattle.rolling_mirror.proofs.Turns.{way-goes, way-done, turn-window, over-window}
use Rattle.rolling_mirror.proofs.rolling.RollingMirror.turn.Goals as goal

pub loop-copy-preserved : goal.loop-copy-preserved
loop-copy-preserved g c =
    rw c.push-in-loop-copy.ensures.items
    (way-goes _ _ _ _ _ _ _ _ c.loop-copy-test.true c.loop-copy.invariant c.step.ensures.state c.step.ensures.answer)

pub returns-clause-state : goal.returns-clause-state
returns-clause-state g c =
    (way-done c.tick.ensures.state c.copies-copies.ensures.copies c.loop-copy-test.false c.loop-copy.invariant).0

pub returns-clause-replies : goal.returns-clause-replies
returns-clause-replies g c =
    (way-done c.tick.ensures.state c.copies-copies.ensures.copies c.loop-copy-test.false c.loop-copy.invariant).1

pub returns-clause-moved : goal.returns-clause-moved
returns-clause-moved g c = λ whole h before moved.
    let tick = c.tick.ensures.window whole h (omega arith) (c.tick.ensures.answer ∙ moved) in
    turn-window g.G.Game.rules c.args.self.now _ _ c.tick.ensures.state c.always.ensures.within whole before tick.0
    (tick.1 ∙ ap ToTick (c.tick.ensures.answer ∙ moved)) _ (returns-clause-state g c) (returns-clause-replies g c) moved

pub returns-clause-over : goal.returns-clause-over
returns-clause-over g c = λ whole h before over.
    over-window g.G.Game.rules c.args.self.now _ _ c.tick.ensures.state c.always.ensures.within whole h before _
    (returns-clause-state g c) (returns-clause-replies g c) over
