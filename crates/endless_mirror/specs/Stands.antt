-- What holds of a mirror of a session without an end, and which events requests are of the mirror that
-- remembers all.
use Rattle.std.specs.Prelude.{◌⊎◌, ℕ, ◌≤◌, ◌<◌, List, [], ◌∷◌, length, if◌then◌else◌}
use Rattle.std.specs.List.{AllByRecursion}
use Rattle.game_trait.specs.declared.command.Command.{Command}
use Rattle.game_trait.specs.declared.event.Event.{Event}
use Rattle.game_trait.specs.declared.event.Event.TheVariants as events
use Rattle.game_trait.specs.Run.{beats}
use Rattle.sync_model.specs.State.{MirrorState}
use Rattle.sync_model.specs.Staggered.{IsTrailing}
use Rattle.sync_model.specs.Change.{after}
use Rattle.sync_model.specs.Forgetting.{IsRemembered, arrive_from}
use Rattle.sync_model.specs.Turns.{steps_from, turn_events}
use Rattle.rolling_mirror.specs.declared.arrival.Arrival.{Arrival}
use Rattle.rolling_mirror.specs.declared.arrival.Arrival.TheVariants.{Taken, Repeat, Late, Far, Full}
use Rattle.rolling_mirror.specs.Rolling.{RollState, last_tick, is_held, said_to_arrival}
use Rattle.live_text.specs.declared.request.Request.{Request}
use Rattle.live_text.specs.declared.request.Request.TheVariants.{Own, Cmd, Tick, Turn, Step, Restagger, World, Run, Commands, End}
use Rattle.endless_mirror.specs.Session.{SessionState, is_past, own_command}

-- the clock stands within the window, there are copies, none is ahead of the clock, and they trail one
-- another
pub record Stands {W : Type 0} (r : RollState W) : Type 0 where
  pub within_window : r.left.clock < r.left.length
  pub some_copy : 0 < length r.left.runs
  pub behind_clock : AllByRecursion (λ run. beats run ≤ r.left.clock) r.left.runs
  pub trailing : IsTrailing r.left.accepted r.left.runs

-- a command arrives at the mirror that remembers all, unless it may come again
abbrev pub arrival_made : Command → Arrival → List Event
arrival_made x (Taken repaired) = events.Arrive x ∷ []
arrival_made x Repeat = events.Arrive x ∷ []
arrival_made x (Late bound) = events.Arrive x ∷ []
arrival_made x (Far end) = []
arrival_made x Full = []

-- the events that a request is of a mirror with this number of copies that remembers all
abbrev pub events_made : {W : Type 0} → ℕ → SessionState W → Request → List Event
events_made copies s (Own player act) =
    if is_past s then []
    else arrival_made (own_command s player act)
    (said_to_arrival s.mirror (own_command s player act))
events_made copies s (Cmd x) = arrival_made x (said_to_arrival s.mirror x)
events_made copies s Tick = if is_held s.mirror then [] else events.Tick ∷ []
events_made copies s Turn =
    if is_held s.mirror then steps_from 0 copies else turn_events copies
events_made copies s (Step copy) = events.Step copy ∷ []
events_made copies s (Restagger plan) = events.Restagger plan ∷ []
events_made copies s (World copy) = []
events_made copies s (Run copy) = []
events_made copies s Commands = []
events_made copies s End = []

-- a command hasn't the name of one that was forgotten, or the last copy has run past it
abbrev pub IsKnown : {W : Type 0} → MirrorState W → RollState W → Command → Type 0
IsKnown whole r x = IsRemembered r.base whole (events.Arrive x) ⊎ (x.time < last_tick r)

-- the same of what a request brings
abbrev pub BringsKnown : {W : Type 0} → MirrorState W → SessionState W → Request → Type 0
BringsKnown whole s (Own player act) = IsKnown whole s.mirror (own_command s player act)
BringsKnown whole s (Cmd x) = IsKnown whole s.mirror x
BringsKnown whole s Tick = Unit {0}
BringsKnown whole s Turn = Unit {0}
BringsKnown whole s (Step copy) = Unit {0}
BringsKnown whole s (Restagger plan) = Unit {0}
BringsKnown whole s (World copy) = Unit {0}
BringsKnown whole s (Run copy) = Unit {0}
BringsKnown whole s Commands = Unit {0}
BringsKnown whole s End = Unit {0}

-- the mirror that remembers all, and asks of names what is due from tick b on, after a command that was answered
-- so: one that may come again didn't come
abbrev pub arrived_from : {W : Type 0} → ℕ → MirrorState W → Command → Arrival → MirrorState W
arrived_from b whole x (Taken repaired) = arrive_from b whole x
arrived_from b whole x Repeat = arrive_from b whole x
arrived_from b whole x (Late bound) = arrive_from b whole x
arrived_from b whole x (Far end) = whole
arrived_from b whole x Full = whole

-- and after a request
unfoldable pub whole_after : {W : Type 0} → MirrorState W → SessionState W → Request → MirrorState W
whole_after whole s (Own player act) =
    if is_past s then whole
    else arrived_from s.mirror.base whole (own_command s player act)
    (said_to_arrival s.mirror (own_command s player act))
whole_after whole s (Cmd x) = arrived_from s.mirror.base whole x (said_to_arrival s.mirror x)
whole_after whole s Tick = after whole (events_made (length whole.runs) s Tick)
whole_after whole s Turn = after whole (events_made (length whole.runs) s Turn)
whole_after whole s (Step copy) = after whole (events_made (length whole.runs) s (Step copy))
whole_after whole s (Restagger plan) = after whole (events_made (length whole.runs) s (Restagger plan))
whole_after whole s (World copy) = whole
whole_after whole s (Run copy) = whole
whole_after whole s Commands = whole
whole_after whole s End = whole
