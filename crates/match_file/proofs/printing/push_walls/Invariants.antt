use Rattle.std.proofs.Common.{◌≡◌, ◌++◌, map}
use Rattle.tss_io.specs.Lines.{lines_text}
use Rattle.match_file.specs.Text.{wall_line, walls_of}
use Rattle.match_file.proofs.printing.push_walls.Given as goal

abbrev pub invariant-loop-y : goal.invariant-loop-y
invariant-loop-y l = l.out.items ≡ l.fn.out.items ++ lines_text (map wall_line (walls_of l.ground l.ground.width l.y))
