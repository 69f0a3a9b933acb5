use Rattle.std.proofs.Common.{◌∙◌, ap, sym, List, length, arith}
use Rattle.game_trait.specs.declared.command.Item.{Item}
use Rattle.trailing_copy.proofs.Remade.{run-many, run-at, end-inside}
use Rattle.trailing_copy.proofs.lazy.LazyStack.run_len.Goals as goal
use Rattle.std.proofs.lemmas.List.{length-take-le}

pub returns : goal.returns
returns g c =
    let there = rw (← c.self.view_is) at c.requires in
    let many = run-many c.self.invariant.0 c.always.ensures.falls c.always.ensures.first in
    rw (← c.self.view_is)
    (c.end.ensures ∙ sym (ap (λ (l : List Item). length l)
    (run-at c.self.invariant.0 c.always.ensures.falls c.always.ensures.first c.args.copy (omega arith))
    ∙ length-take-le _ c.self.inside.run.items
    (end-inside c.self.invariant.0 c.always.ensures.falls c.always.ensures.first c.args.copy (omega arith))))
