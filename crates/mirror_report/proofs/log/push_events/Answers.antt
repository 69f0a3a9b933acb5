use Rattle.tss_io.proofs.Printing.{lines_next, lines_none, front-front}
use Rattle.report_text.specs.Logs.{event_line}
use Rattle.mirror_report.proofs.log.push_events.Goals as goal

pub loop-event-init : goal.loop-event-init
loop-event-init c = lines_none _

pub loop-event-preserved : goal.loop-event-preserved
loop-event-preserved c = lines_next event_line c.args.events.now c.loop-event.event-index _ _ _ _ c.loop-event-test.true c.loop-event.invariant c.in_ok-push_event.ensures.ok

pub returns-in_err-push_event-clause-front : goal.returns-in_err-push_event-clause-front
returns-in_err-push_event-clause-front c = front-front _ _ _ _ c.loop-event.invariant c.in_err-push_event.ensures.front
