use Rattle.std.proofs.Common.{◌≡◌, replicate, vec_capacity, vec_len}
use Rattle.trailing_copy.proofs.lazy.LazyStack.new.Given as goal

abbrev pub invariant-loop-made : goal.invariant-loop-made
invariant-loop-made g l = record {
  worlds : l.worlds.items ≡ replicate l.made l.opening;
  worlds_len : vec_len l.worlds ≡ l.made;
  worlds_room : vec_capacity l.worlds ≡ l.copies;
}
