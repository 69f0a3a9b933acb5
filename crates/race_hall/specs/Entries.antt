-- The history of a mirror behind a lock: which seat asked what, and what was answered.
use Rattle.std.specs.Prelude.{◌≡◌, ℕ, ◌==◌, ◌≤◌, ◌+◌, Bool, true, false, cond, filter, List, [], ◌∷◌, map}
use Rattle.game_trait.specs.declared.command.Command.{Command}
use Rattle.game_trait.specs.declared.event.Event.{Event}
use Rattle.game_trait.specs.declared.event.Event.TheVariants.{Tick, Arrive, Step, Restagger}
use Rattle.game_trait.specs.declared.event.Reply.{Reply}
use Rattle.game_trait.specs.declared.event.Reply.TheVariants.{Tick as ToTick, Arrive as ToArrive, Step as ToStep, Restaggered}
use Rattle.game_trait.specs.declared.event.Arrived.TheVariants.{Taken, Repeat, Late}
use Rattle.sync_model.specs.State.{MirrorState, delays_of}
use Rattle.sync_model.specs.Schedule.{longest_delay}
use Rattle.sync_model.specs.Change.{next, said, Fits}
use Rattle.copy_workers.specs.declared.post.Asked.{Asked}

-- one entry: the seat that asked, and the pair
pub record Entry : Type 0 where
  pub seat : ℕ
  pub pair : Asked

-- the pairs, whoever asked
abbrev pub pairs_of : List Entry → List Asked
pairs_of history = map (λ e. e.pair) history

-- the pairs of one seat
unfoldable pub own : ℕ → List Entry → List Asked
own seat [] = []
own seat (e ∷ rest) = cond (e.seat == seat) (e.pair ∷ own seat rest) (own seat rest)

-- the events of pairs
abbrev pub events_asked : List Asked → List Event
events_asked asked = map (λ p. p.event) asked

-- each event fits, and each answer is what the mirror said there
unfoldable pub AreAnswersOf : {W : Type 0} → MirrorState W → List Asked → Type 0
AreAnswersOf s [] = Unit {0}
AreAnswersOf s (p ∷ rest) =
    Fits s p.event × (p.reply ≡ said s p.event) × AreAnswersOf (next s p.event) rest

-- an event is a copy's step
abbrev pub IsStepping : Event → Type 0
IsStepping Tick = ⊥
IsStepping (Arrive x) = ⊥
IsStepping (Step c) = Unit {0}
IsStepping (Restagger p) = ⊥

-- an event is a tick or an arrival
abbrev pub is_feeding : Event → Bool
is_feeding Tick = true
is_feeding (Arrive x) = true
is_feeding (Step c) = false
is_feeding (Restagger p) = false

-- those of the pairs that a feeder may ask
abbrev pub feeding_of : List Asked → List Asked
feeding_of asked = filter (λ p. is_feeding p.event) asked

-- the commands that arrive, in order
unfoldable pub commands_asked : List Event → List Command
commands_asked [] = []
commands_asked (Tick ∷ es) = commands_asked es
commands_asked (Arrive x ∷ es) = x ∷ commands_asked es
commands_asked (Step c ∷ es) = commands_asked es
commands_asked (Restagger p ∷ es) = commands_asked es

-- an arriving command isn't older than the clock by more than the longest delay, and no plan is
-- changed
abbrev pub IsInTime : {W : Type 0} → MirrorState W → Event → Type 0
IsInTime s Tick = Unit {0}
IsInTime s (Arrive x) = s.clock ≤ x.time + longest_delay (delays_of s)
IsInTime s (Step c) = Unit {0}
IsInTime s (Restagger p) = ⊥

-- so it is with each of the events
unfoldable pub AllInTime : {W : Type 0} → MirrorState W → List Event → Type 0
AllInTime s [] = Unit {0}
AllInTime s (e ∷ es) = IsInTime s e × AllInTime (next s e) es

-- where it answers an arrival, the answer is Taken
abbrev pub IsNeverRefused : Reply → Type 0
IsNeverRefused (ToTick ticked) = Unit {0}
IsNeverRefused (ToArrive (Taken n)) = Unit {0}
IsNeverRefused (ToArrive Repeat) = ⊥
IsNeverRefused (ToArrive (Late bound)) = ⊥
IsNeverRefused (ToStep stepped) = Unit {0}
IsNeverRefused Restaggered = Unit {0}

-- each arrival is answered Taken
unfoldable pub AllTaken : {W : Type 0} → MirrorState W → List Event → Type 0
AllTaken s [] = Unit {0}
AllTaken s (e ∷ es) = IsNeverRefused (said s e) × AllTaken (next s e) es
