use Rattle.std.proofs.Common.{length}
use Rattle.report_text.proofs.Logs.{log_puts}
use Rattle.run_recorder.proofs.printing.push_log.Goals as goal

pub returns : goal.returns
returns c = log_puts c.args.log.now.mirror (length c.args.log.now.events) c.args.log.now.events _ _ _
    (rw (c.from.ensures, c.len.ensures) at c.in_ok-push_line.ensures.ok)
    (rw c.as_slice.ensures at c.in_ok-push_events.ensures)
