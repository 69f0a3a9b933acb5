use Rattle.std.proofs.Common.{◌≡◌, ◌+◌, ◌-◌, ◌≤◌, take, drop, length}
use Rattle.game_trait.specs.Ordered.{tick_of, due_at}
use Rattle.pending_list.proofs.Walks.{IsWalked}
use Rattle.divergence_check.proofs.diverges.Given as goal

abbrev pub invariant-loop-x : goal.invariant-loop-x
invariant-loop-x l = record {
  walked : IsWalked l.list.all l.t l.start l.next;
  upto : l.at ≤ length l.run.items;
  level : l.at ≡ l.place + (l.next - l.start);
  so_far :
      take (l.next - l.start) (drop l.place l.run.items)
      ≡ take (l.next - l.start) (tick_of l.list.all l.t);
}

abbrev pub decreases-loop-x : goal.decreases-loop-x
decreases-loop-x l = length (due_at l.list.all l.t) - (l.next - l.start)
