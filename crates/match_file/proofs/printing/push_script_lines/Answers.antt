use Rattle.match_file.specs.Text.{script_line}
use Rattle.tss_io.proofs.Printing.{lines_next}
use Rattle.match_file.proofs.printing.push_script_lines.Goals as goal

pub loop-line-preserved : goal.loop-line-preserved
loop-line-preserved c = lines_next script_line c.args.script.now c.loop-line.line-index _ _ _ _ c.loop-line-test.true c.loop-line.invariant c.in_ok-push_script_line.ensures
