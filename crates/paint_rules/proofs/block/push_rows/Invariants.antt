use Rattle.std.proofs.Common.{◌≡◌, ◌++◌, map}
use Rattle.std.specs.List.{range_with_len}
use Rattle.tss_io.specs.Lines.{lines_text}
use Rattle.paint_rules.specs.Block.{row_line}
use Rattle.paint_rules.proofs.block.push_rows.Given as goal

abbrev pub invariant-loop-y : goal.invariant-loop-y
invariant-loop-y l = l.out.items ≡ l.fn.out.items ++ lines_text (map (row_line l.ground l.cells) (range_with_len 0 l.y))
