use Rattle.std.proofs.Common.{◌≡◌, ◌-◌, length}
use Rattle.game_trait.specs.Ordered.{due_at}
use Rattle.pending_list.proofs.Walks.{IsWalked, walked_by}
use Rattle.trailing_copy.proofs.due.due_into.Given as goal

abbrev pub invariant-loop-x : goal.invariant-loop-x
invariant-loop-x g l = record {
  walked : IsWalked l.list.all l.t l.start l.place;
  commands : l.commands.items ≡ walked_by l.list.all l.t l.start l.place;
}

abbrev pub decreases-loop-x : goal.decreases-loop-x
decreases-loop-x g l = length (due_at l.list.all l.t) - (l.place - l.start)
