use Rattle.std.proofs.Common.{◌≡◌, replicate}
use Rattle.std.specs.Prelude.{vec_capacity, vec_len}
use Rattle.mirror_core.proofs.epochs.Epochs.new.Given as goal

abbrev pub invariant-loop-made : goal.invariant-loop-made
invariant-loop-made l = record {
  numbers : l.numbers.items ≡ replicate l.made 0;
  many : vec_len l.numbers ≡ l.made;
  room : vec_capacity l.numbers ≡ l.copies;
}
