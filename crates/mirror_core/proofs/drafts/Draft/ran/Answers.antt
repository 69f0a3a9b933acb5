use Rattle.std.proofs.Common.{◌∙◌, map, ap}
use Rattle.game_trait.specs.declared.command.Item.TheVariants.{Cmd}
use Rattle.game_trait.specs.Run.{world_of}
use Rattle.mirror_core.proofs.Executed.{executed}
use Rattle.mirror_core.proofs.drafts.Draft.ran.Goals as goal

pub returns : goal.returns
returns g c =
    let world =
    executed g.G.Game.rules c.self.inside.world c.execute.new.world c.beat.new.self _
    c.self.inside.commands.items
    (c.execute.ensures ∙ ap (λ w. world_of g.G.Game.rules w (map Cmd c.deref.result.now)) c.twin-world.ensures)
    c.deref.ensures.0 c.beat.ensures in
    rw (← c.self.view_is) (λ i. record {
      copy = c.self.inside.copy;
      epoch = c.self.inside.epoch;
      clock = c.self.inside.clock;
      world = world i;
    })
