use Rattle.std.proofs.Common.{length}
use Rattle.report_text.proofs.Logs.{log_puts}
use Rattle.mirror_report.proofs.log.push_log.Goals as goal

pub returns-clause-ok : goal.returns-clause-ok
returns-clause-ok c = log_puts c.args.number (length c.args.events.now) c.args.events.now _ _ _
    (rw c.from.ensures at c.in_ok-push_line.ensures.ok) c.in_ok-push_events.ensures.ok
