use Rattle.std.proofs.Common.{◌≡◌, ◌≤◌, [], length}
use Rattle.std.specs.Prelude.{vec_capacity}
use Rattle.std.specs.List.{AllByRecursion}
use Rattle.std.specs.VecDeque.{deque_capacity}
use Rattle.pending_list.proofs.sized.new_buckets.Given as goal

abbrev pub invariant-loop-made : goal.invariant-loop-made
invariant-loop-made l =
    AllByRecursion (λ b. b.items ≡ []) l.buckets.items
    × (AllByRecursion (λ b. 2048 ≤ deque_capacity b) l.buckets.items
    × ((length l.buckets.items ≡ l.made) × (l.count ≤ vec_capacity l.buckets)))
