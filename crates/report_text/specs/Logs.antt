-- The lines of a mirror's log: the events that changed it.
use Rattle.std.specs.Prelude.{ℕ, List, [], ◌∷◌, codes, decimal, map}
use Rattle.game_trait.specs.declared.event.Event.{Event}
use Rattle.game_trait.specs.declared.event.Event.TheVariants.{Tick, Arrive, Step, Restagger}
use Rattle.tss_io.specs.Lines.{spaced, lines_text}

-- the line of a log's event
abbrev pub event_line : Event → List ℕ
event_line Tick = codes "tick"
event_line (Arrive x) = spaced (codes "arrive" ∷ decimal x.from ∷ decimal x.number ∷ [])
event_line (Step copy) = spaced (codes "step" ∷ decimal copy ∷ [])
event_line (Restagger plan) = spaced (codes "restagger" ∷ decimal plan ∷ [])

-- the line that opens a log: its mirror, and how many events it has
abbrev pub log_line : ℕ → ℕ → List ℕ
log_line mirror count = spaced (codes "log" ∷ decimal mirror ∷ decimal count ∷ [])

-- a mirror's log
abbrev pub log_text : ℕ → ℕ → List Event → List ℕ
log_text mirror count events = lines_text (log_line mirror count ∷ map event_line events)
