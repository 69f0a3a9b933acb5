use Rattle.game_trait.specs.Later.{later}
use Rattle.tss_io.proofs.Printing.{lines_next, lines_none}
use Rattle.command_lines.specs.CommandLine.{command_line}
use Rattle.endless_mirror.proofs.Texts.{later-lines}
use Rattle.endless_mirror.proofs.show.push_later.Goals as goal

pub loop-x-init : goal.loop-x-init
loop-x-init c = lines_none _

pub loop-x-preserved : goal.loop-x-preserved
loop-x-preserved c =
    lines_next (λ x. command_line (later c.args.by x)) c.args.commands.now c.loop-x.x-index _ _ _ _ c.loop-x-test.true c.loop-x.invariant
    c.in_ok-push_command.ensures.ok

pub returns-clause-ok : goal.returns-clause-ok
returns-clause-ok c = later-lines c.args.by c.loop-x.x-index c.args.commands.now _ _ c.loop-x-test.false c.loop-x.invariant
