use Rattle.std.proofs.Common.{◌≡◌, ◌++◌, map, take}
use Rattle.tss_io.specs.Lines.{lines_text}
use Rattle.match_file.specs.Text.{script_line}
use Rattle.match_file.proofs.printing.push_script_lines.Given as goal

abbrev pub invariant-loop-line : goal.invariant-loop-line
invariant-loop-line l = l.out.items ≡ l.fn.out.items ++ lines_text (map script_line (take l.line-index l.script))
