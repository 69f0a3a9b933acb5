use Rattle.std.proofs.Common.{◌≡◌, ◌++◌, map, take}
use Rattle.tss_io.specs.Lines.{lines_text}
use Rattle.report_text.specs.Logs.{event_line}
use Rattle.mirror_report.proofs.log.push_events.Given as goal

abbrev pub invariant-loop-event : goal.invariant-loop-event
invariant-loop-event l = l.out.items ≡ l.fn.out.items ++ lines_text (map event_line (take l.event-index l.events))
