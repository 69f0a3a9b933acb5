use Rattle.std.proofs.Common.{◌-◌, length}
use Rattle.game_trait.specs.Ordered.{due_at}
use Rattle.pending_list.proofs.Walks.{IsWalked}
use Rattle.repair_copy.proofs.Walking.{Appended}
use Rattle.repair_copy.proofs.append.append_commands.Given as goal

abbrev pub invariant-loop-x : goal.invariant-loop-x
invariant-loop-x l = record {
  walked : IsWalked l.list.all l.t l.start l.place;
  run : Appended l.list.all l.t l.start l.place l.fn.run l.run;
}

abbrev pub decreases-loop-x : goal.decreases-loop-x
decreases-loop-x l = length (due_at l.list.all l.t) - (l.place - l.start)
