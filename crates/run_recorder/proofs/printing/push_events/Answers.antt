use Rattle.tss_io.proofs.Printing.{lines_next}
use Rattle.report_text.specs.Logs.{event_line}
use Rattle.run_recorder.proofs.printing.push_events.Goals as goal

pub loop-event-preserved : goal.loop-event-preserved
loop-event-preserved c = lines_next event_line c.args.events.now c.loop-event.event-index _ _ _ _ c.loop-event-test.true c.loop-event.invariant c.in_ok-push_event.ensures
