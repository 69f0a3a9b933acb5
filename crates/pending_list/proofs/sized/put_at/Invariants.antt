use Rattle.std.proofs.Common.{◌≡◌, ◌≤◌, ◌<◌, ◌+◌, ◌-◌, ◌*◌, length, map}
use Rattle.std.specs.List.{AllByRecursion, insert}
use Rattle.std.specs.VecDeque.{deque_capacity}
use Rattle.pending_list.specs.Sized.{joined}
use Rattle.pending_list.proofs.Cut.{IsPutUpto}
use Rattle.pending_list.proofs.sized.put_at.Given as goal

abbrev pub invariant-loop-over : goal.invariant-loop-over
invariant-loop-over l =
    let order = joined (map (λ b. b.items) l.fn.buckets.items) in
    IsPutUpto order (insert order l.fn.place l.fn.placed) (map (λ b. b.items) l.buckets.items) l.i l.over
    × ((l.fn.place ≤ 2048 * l.i + 2048) × ((l.fn.place ≤ length order) × ((length order < 2048 * length l.fn.buckets.items)
    × ((length l.buckets.items ≡ length l.fn.buckets.items) × AllByRecursion (λ b. 2048 ≤ deque_capacity b) l.buckets.items))))

abbrev pub decreases-loop-over : goal.decreases-loop-over
decreases-loop-over l = length l.buckets.items - l.i
