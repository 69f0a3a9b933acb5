use Rattle.std.proofs.Common.{◌≡◌, length, map}
use Rattle.game_trait.specs.declared.command.Item.TheVariants.{Cmd}
use Rattle.game_trait.specs.Run.{world_of}
use Rattle.game_trait.specs.Front.{due_front, due_behind}
use Rattle.game_trait.proofs.order.apply_due.Given as goal

abbrev pub invariant-loop-x : goal.invariant-loop-x
invariant-loop-x g l = record {
  world : world_of g.G.Game.rules l.game (map Cmd (due_front l.t l.left)) ≡ world_of g.G.Game.rules l.fn.game (map Cmd (due_front l.t l.commands));
  rest : due_behind l.t l.left ≡ due_behind l.t l.commands;
}

abbrev pub decreases-loop-x : goal.decreases-loop-x
decreases-loop-x g l = length l.left
