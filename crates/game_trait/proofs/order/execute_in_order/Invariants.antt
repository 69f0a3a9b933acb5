use Rattle.std.proofs.Common.{◌≡◌, ◌-◌}
use Rattle.game_trait.specs.Keys.{in_key_order}
use Rattle.game_trait.specs.Run.{world_of}
use Rattle.game_trait.specs.Ordered.{ticks}
use Rattle.game_trait.proofs.Front.{FromTick}
use Rattle.game_trait.proofs.order.execute_in_order.Given as goal

abbrev pub invariant-loop-t : goal.invariant-loop-t
invariant-loop-t g l = record {
  due : FromTick l.t l.left;
  world : world_of g.G.Game.rules l.game (ticks l.left l.t (l.length - l.t))
      ≡ world_of g.G.Game.rules l.fn.game (ticks (in_key_order l.fn.commands) 0 l.length);
}
