use Rattle.command_lines.specs.CommandLine.{command_line}
use Rattle.tss_io.proofs.Printing.{lines_next}
use Rattle.match_file.proofs.printing.push_commands.Goals as goal

pub loop-command-preserved : goal.loop-command-preserved
loop-command-preserved c = lines_next command_line c.args.commands.now c.loop-command.command-index _ _ _ _ c.loop-command-test.true c.loop-command.invariant c.in_ok-push_command.ensures.ok
