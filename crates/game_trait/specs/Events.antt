-- Events and answers: their kinds, and what is counted of them.
use Rattle.std.specs.Prelude.{ℕ, Bool, true, false, List, ⊤}
use Rattle.game_trait.specs.declared.event.Event.{Event}
use Rattle.game_trait.specs.declared.event.Event.TheVariants.{Tick, Arrive, Step, Restagger}
use Rattle.game_trait.specs.declared.event.Reply.{Reply}
use Rattle.game_trait.specs.declared.event.Reply.TheVariants.{Tick as ToTick, Arrive as ToArrive, Step as ToStep, Restaggered}
use Rattle.game_trait.specs.declared.event.Ticked.TheVariants.{Moved, Over}
use Rattle.game_trait.specs.Count.{times}

-- an event is an arrival
abbrev pub is_arrival : Event → Bool
is_arrival Tick = false
is_arrival (Arrive x) = true
is_arrival (Step c) = false
is_arrival (Restagger p) = false

-- an event is a step of a copy
abbrev pub is_step : Event → Bool
is_step Tick = false
is_step (Arrive x) = false
is_step (Step c) = true
is_step (Restagger p) = false

-- an event puts another plan of delays in force
abbrev pub is_restagger : Event → Bool
is_restagger Tick = false
is_restagger (Arrive x) = false
is_restagger (Step c) = false
is_restagger (Restagger p) = true

-- an answer is to an event of its kind
abbrev pub IsOfKind : Event → Reply → Type 0
IsOfKind Tick (ToTick ticked) = ⊤
IsOfKind (Arrive x) (ToArrive arrived) = ⊤
IsOfKind (Step c) (ToStep stepped) = ⊤
IsOfKind (Restagger p) Restaggered = ⊤
IsOfKind e r = ⊥

-- an answer says that the clock went on
abbrev pub is_moved : Reply → Bool
is_moved (ToTick Moved) = true
is_moved (ToTick Over) = false
is_moved (ToArrive arrived) = false
is_moved (ToStep stepped) = false
is_moved Restaggered = false

-- how often answers say that the clock went on
abbrev pub moves : List Reply → ℕ
moves replies = times is_moved replies
