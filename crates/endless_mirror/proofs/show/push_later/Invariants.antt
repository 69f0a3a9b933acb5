use Rattle.std.proofs.Common.{◌≡◌, ◌++◌, map, take}
use Rattle.game_trait.specs.Later.{later}
use Rattle.tss_io.specs.Lines.{lines_text}
use Rattle.command_lines.specs.CommandLine.{command_line}
use Rattle.endless_mirror.proofs.show.push_later.Given as goal

abbrev pub invariant-loop-x : goal.invariant-loop-x
invariant-loop-x l = l.out.items ≡ l.fn.out.items ++ lines_text (map (λ x. command_line (later l.by x)) (take l.x-index l.commands))
