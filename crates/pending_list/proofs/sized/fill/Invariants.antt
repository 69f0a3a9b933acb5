use Rattle.std.proofs.Common.{◌≡◌, ◌≤◌, ◌++◌, length, map, drop}
use Rattle.std.specs.List.{AllByRecursion}
use Rattle.std.specs.VecDeque.{deque_capacity}
use Rattle.pending_list.specs.Sized.{joined, AreBuckets}
use Rattle.pending_list.specs.Keyed.{placed_of}
use Rattle.pending_list.proofs.sized.fill.Given as goal

abbrev pub invariant-loop-key : goal.invariant-loop-key
invariant-loop-key l = record {
  items : joined (map (λ b. b.items) l.buckets.items) ++ map placed_of (drop l.key-index l.keys) ≡ map placed_of l.keys;
  at : l.place ≡ l.key-index;
  place : length (joined (map (λ b. b.items) l.buckets.items)) ≡ l.place;
  cut : AreBuckets (joined (map (λ b. b.items) l.buckets.items)) (map (λ b. b.items) l.buckets.items);
  len : length l.buckets.items ≡ length l.fn.buckets.items;
  capacities : AllByRecursion (λ b. 2048 ≤ deque_capacity b) l.buckets.items;
}
