use Rattle.std.proofs.Common.{◌≡◌, ◌++◌, map}
use Rattle.tss_io.specs.Lines.{lines_text}
use Rattle.match_file.specs.Text.{wall_line, walls_in_row}
use Rattle.match_file.proofs.printing.push_row.Given as goal

abbrev pub invariant-loop-x : goal.invariant-loop-x
invariant-loop-x l = l.out.items ≡ l.fn.out.items ++ lines_text (map wall_line (walls_in_row l.ground l.y l.x))
