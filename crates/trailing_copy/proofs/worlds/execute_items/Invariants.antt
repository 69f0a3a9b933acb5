use Rattle.std.proofs.Common.{◌≡◌, drop, take}
use Rattle.game_trait.specs.Run.{world_of}
use Rattle.trailing_copy.proofs.worlds.execute_items.Given as goal

abbrev pub invariant-loop-place : goal.invariant-loop-place
invariant-loop-place g l =
    l.world ≡ world_of g.G.Game.rules l.fn.world (drop l.start (take l.place l.run.items))
