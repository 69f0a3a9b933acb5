use Rattle.std.proofs.Common.{◌≡◌, map, drop}
use Rattle.game_trait.specs.declared.command.Item.TheVariants.{Cmd}
use Rattle.game_trait.specs.Run.{world_of}
use Rattle.mirror_core.proofs.drafts.execute.Given as goal

abbrev pub invariant-loop-x : goal.invariant-loop-x
invariant-loop-x g l = record {
  world :
      world_of g.G.Game.rules l.world (map Cmd (drop l.x-index l.commands))
      ≡ world_of g.G.Game.rules l.fn.world (map Cmd l.commands);
}
