use Rattle.std.proofs.Common.{◌≡◌, ◌≤◌, length, map}
use Rattle.std.specs.List.{AllByRecursion}
use Rattle.std.specs.VecDeque.{deque_capacity}
use Rattle.pending_list.proofs.Filled.{IsEmptyUpto}
use Rattle.pending_list.proofs.sized.empty.Given as goal

abbrev pub invariant-loop-i : goal.invariant-loop-i
invariant-loop-i l = record {
  empty : IsEmptyUpto (map (λ b. b.items) l.buckets.items) l.i;
  len : length l.buckets.items ≡ length l.fn.buckets.items;
  capacities : AllByRecursion (λ b. 2048 ≤ deque_capacity b) l.buckets.items;
}
