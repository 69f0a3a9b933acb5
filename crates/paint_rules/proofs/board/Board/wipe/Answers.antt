use Rattle.std.proofs.Common.{sym, ap}
use Rattle.paint_rules.proofs.Marks.{clean-wiped, wiped-clean}
use Rattle.paint_rules.proofs.board.Board.wipe.Goals as goal

pub invariant_of-self : goal.invariant_of-self
invariant_of-self c = record {
  near = c.self.invariant.near;
  marked = c.self.invariant.marked;
  clean = λ none. rw (c.wipe_each.ensures, c.deref.ensures.0) (clean-wiped c.self.inside.pickups.items c.self.inside.cells);
}

pub returns-else-self : goal.returns-else-self
returns-else-self c =
    rw (← c.self.view_is) (ap (λ o. record { owners = o; pickups = c.self.inside.pickups.items })
    (sym (wiped-clean c.self.inside.pickups.items c.self.inside.cells (c.self.invariant.clean c.if-self.false))))
