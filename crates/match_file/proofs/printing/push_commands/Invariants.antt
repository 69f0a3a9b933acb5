use Rattle.std.proofs.Common.{◌≡◌, ◌++◌, map, take}
use Rattle.tss_io.specs.Lines.{lines_text}
use Rattle.command_lines.specs.CommandLine.{command_line}
use Rattle.match_file.proofs.printing.push_commands.Given as goal

abbrev pub invariant-loop-command : goal.invariant-loop-command
invariant-loop-command l = l.out.items ≡ l.fn.out.items ++ lines_text (map command_line (take l.command-index l.commands))
