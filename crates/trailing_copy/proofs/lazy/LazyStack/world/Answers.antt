use Rattle.std.proofs.Common.{◌∙◌, ap, sym, arith}
use Rattle.game_trait.specs.Run.{world_of}
use Rattle.trailing_copy.proofs.Remade.{run-many, run-at, world-at}
use Rattle.trailing_copy.proofs.lazy.LazyStack.world.Goals as goal

pub returns : goal.returns
returns g c =
    let there = rw (← c.self.view_is) at c.requires.there in
    let fresh = rw (← c.self.view_is) at c.requires.fresh in
    let many = run-many c.self.invariant.0 c.always.ensures.falls c.always.ensures.first in
    rw (← c.self.view_is)
    (c.index.ensures
    ∙ world-at c.self.invariant.0 c.always.ensures.falls c.always.ensures.first c.args.copy _ (omega arith)
    (omega arith)
    ∙ ap (world_of g.G.Game.rules c.self.inside.opening) (sym
    (run-at c.self.invariant.0 c.always.ensures.falls c.always.ensures.first c.args.copy
    (omega arith))))
