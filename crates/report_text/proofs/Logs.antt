-- A log, part after part.
use Rattle.std.proofs.Common.{◌≡◌, ℕ, List, ◌++◌, map, ◌∙◌, append_assoc}
use Rattle.game_trait.specs.declared.event.Event.{Event}
use Rattle.tss_io.specs.Lines.{as_line, lines_text}
use Rattle.report_text.specs.Logs.{event_line, log_line, log_text}

-- a log's first line, and its events
pub log_puts : (mirror count : ℕ) (events : List Event) (old mid new : List ℕ) → mid ≡ old ++ as_line (log_line mirror count) → new ≡ mid ++ lines_text (map event_line events)
    → new ≡ old ++ log_text mirror count events
unfolding lines_text
log_puts mirror count events old mid new first more = more ∙ rw first (append_assoc old (as_line (log_line mirror count)) (lines_text (map event_line events)))
