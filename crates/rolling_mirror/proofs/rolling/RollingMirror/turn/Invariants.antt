use Rattle.game_trait.specs.declared.event.Reply.TheVariants.{Tick as ToTick}
use Rattle.rolling_mirror.specs.Rolling.{ticked, said_to_tick}
use Rattle.rolling_mirror.proofs.Turns.{IsOnItsWay}
use Rattle.rolling_mirror.proofs.rolling.RollingMirror.turn.Given as goal

abbrev pub invariant-loop-copy : goal.invariant-loop-copy
invariant-loop-copy g l =
    IsOnItsWay (ticked g.G.Game.rules l.fn.self) l.self (ToTick (said_to_tick l.fn.self)) l.replies.items
    l.copies l.copy
