use Rattle.std.proofs.Common.{◌≡◌, map}
use Rattle.std.specs.List.{range_with_len}
use Rattle.paint_rules.specs.Block.{cell_byte}
use Rattle.paint_rules.proofs.block.row_word.Given as goal

abbrev pub invariant-loop-x : goal.invariant-loop-x
invariant-loop-x l = l.word.items ≡ map (λ x. cell_byte l.ground l.cells x l.y) (range_with_len 0 l.x)
