use Rattle.std.proofs.Common.{◌∙◌, refl, arith}
use Rattle.repair_copy.proofs.Walking.{world-on, world-beat}
use Rattle.repair_copy.proofs.execute.execute_tick.Goals as goal
use Rattle.game_trait.proofs.Lengths.{length-tick_of-due}

pub returns-clause-count : goal.returns-clause-count
returns-clause-count g c = (let count = c.execute_commands-commands.ensures.count in let same = length-tick_of-due c.args.list.now.all c.args.t in omega arith)

pub returns-clause-world : goal.returns-clause-world
returns-clause-world g c =
    world-on g.G.Game.rules c.args.world.now c.execute_commands-commands.new.world _ _ _ _
    c.execute_commands-commands.ensures.world
    (c.beat.ensures ∙ world-beat g.G.Game.rules c.execute_commands-commands.new.world) refl
