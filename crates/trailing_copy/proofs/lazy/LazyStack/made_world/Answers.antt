use Rattle.std.proofs.Common.{◌∙◌, ap, sym, take, drop, arith}
use Rattle.game_trait.specs.Run.{world_of}
use Rattle.game_trait.proofs.Runs.{world_of-append}
use Rattle.trailing_copy.proofs.Ahead.{falls-between}
use Rattle.trailing_copy.proofs.Fresh.{front-parts}
use Rattle.trailing_copy.proofs.Remade.{run-many, run-at, end-inside, world-at}
use Rattle.trailing_copy.proofs.lazy.LazyStack.made_world.Goals as goal

pub execute_items-requires-clause-order : goal.execute_items-requires-clause-order
execute_items-requires-clause-order g c =
    let there = rw (← c.self.view_is) at c.requires in
    let many = run-many c.self.invariant.0 c.always.ensures.falls c.always.ensures.first in
    let few = c.self.invariant.0.few_stale in
    let from = c.max-from.ensures in
    rw (c.end-start.ensures, c.end-stop.ensures)
    (falls-between c.self.inside.run.ends c.args.copy c.max-from.result c.always.ensures.falls (omega arith) (omega arith))

pub execute_items-requires-clause-there : goal.execute_items-requires-clause-there
execute_items-requires-clause-there g c =
    let there = rw (← c.self.view_is) at c.requires in
    let many = run-many c.self.invariant.0 c.always.ensures.falls c.always.ensures.first in
    rw c.end-stop.ensures
    (end-inside c.self.invariant.0 c.always.ensures.falls c.always.ensures.first c.args.copy (omega arith))

pub returns : goal.returns
returns g c =
    let there = rw (← c.self.view_is) at c.requires in
    let many = run-many c.self.invariant.0 c.always.ensures.falls c.always.ensures.first in
    let few = c.self.invariant.0.few_stale in
    let from = c.max-from.ensures in
    let run = c.self.inside.run in
    let order = falls-between run.ends c.args.copy c.max-from.result c.always.ensures.falls (omega arith) (omega arith) in
    let front = front-parts run.items c.end-start.result c.end-stop.result
    (rw (c.end-start.ensures, c.end-stop.ensures) order) in
    let made = world-at c.self.invariant.0 c.always.ensures.falls c.always.ensures.first c.max-from.result _ (omega arith) (omega arith) in
    rw (← c.self.view_is)
    (c.execute_items.ensures
    ∙ ap (λ w. world_of g.G.Game.rules w (drop c.end-start.result (take c.end-stop.result run.items)))
    (c.twin-world.ensures ∙ c.index.ensures ∙ made ∙ ap (λ n. world_of g.G.Game.rules c.self.inside.opening (take n run.items)) (sym c.end-start.ensures))
    ∙ sym (world_of-append g.G.Game.rules c.self.inside.opening (take c.end-start.result run.items) (drop c.end-start.result (take c.end-stop.result run.items)))
    ∙ ap (world_of g.G.Game.rules c.self.inside.opening) (front ∙ ap (λ n. take n run.items) c.end-stop.ensures
    ∙ sym (run-at c.self.invariant.0 c.always.ensures.falls c.always.ensures.first c.args.copy (omega arith))))
