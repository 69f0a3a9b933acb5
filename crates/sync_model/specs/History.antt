-- What a mirror's history tells of its state.
use Rattle.std.specs.Prelude.{◌≡◌, ℕ, ◌+◌, ◌<◌, true, if◌then◌else◌, List, [], ◌∷◌, ◌++◌}
use Rattle.game_trait.specs.declared.event.Event.{Event}
use Rattle.game_trait.specs.declared.event.Event.TheVariants.{Tick, Arrive, Step, Restagger}
use Rattle.game_trait.specs.declared.event.Reply.{Reply}
use Rattle.game_trait.specs.declared.event.Reply.TheVariants.{Tick as ToTick, Arrive as ToArrive, Step as ToStep, Restaggered}
use Rattle.game_trait.specs.declared.event.Arrived.TheVariants.{Taken, Repeat, Late}
use Rattle.game_trait.specs.declared.event.Stepped.TheVariants.{Ran, Idle}
use Rattle.game_trait.specs.Count.{times}
use Rattle.game_trait.specs.Events.{is_arrival, is_restagger}
use Rattle.sync_model.specs.State.{MirrorState, opening_state}
use Rattle.sync_model.specs.Change.{next, changes, after, answers}

-- those of the events that change the state in which they stand
unfoldable pub changing : {W : Type 0} → MirrorState W → List Event → List Event
changing s [] = []
changing s (e ∷ es) = (if changes s e then e ∷ [] else []) ++ changing (next s e) es

-- each of the events changes the state in which it stands
unfoldable pub EachChanges : {W : Type 0} → MirrorState W → List Event → Type 0
EachChanges s [] = Unit {0}
EachChanges s (e ∷ es) = (changes s e ≡ true) × EachChanges (next s e) es

-- a state with this room
abbrev pub with_room : {W : Type 0} → MirrorState W → ℕ → ℕ → MirrorState W
with_room s spare plan_spare = record s { spare = spare; plan_spare = plan_spare }

-- a state with its room left out
abbrev pub without_room : {W : Type 0} → MirrorState W → MirrorState W
without_room s = with_room s 0 0

-- the state that a history leads to from the opening of a match, with its room left out
abbrev pub state_after : {W : Type 0} → W → ℕ → List (List ℕ) → List Event → MirrorState W
state_after opening length plans history =
    without_room (after (opening_state opening length plans 0 0) history)

-- a mirror of the same match before any event, without room
abbrev pub first_state : {W : Type 0} → MirrorState W → MirrorState W
first_state s = opening_state s.opening s.length s.plans 0 0

-- a state is, its room left out, the one that its history leads to
abbrev pub IsReached : {W : Type 0} → MirrorState W → Type 0
IsReached s = without_room s ≡ state_after s.opening s.length s.plans s.history

-- the state that a mirror began with: its room was what is left, and one for each arrival and each
-- change of the plan in its history
abbrev pub opening_of : {W : Type 0} → MirrorState W → MirrorState W
opening_of s =
    opening_state s.opening s.length s.plans (s.spare + times is_arrival s.history)
    (s.plan_spare + times is_restagger s.history)

-- a state is, with its room, the one that its history leads to
abbrev pub IsFromHistory : {W : Type 0} → MirrorState W → Type 0
IsFromHistory s = s ≡ after (opening_of s) s.history

-- there is room for an event
abbrev pub HasRoom : {W : Type 0} → MirrorState W → Event → Type 0
HasRoom s Tick = Unit {0}
HasRoom s (Arrive x) = 0 < s.spare
HasRoom s (Step c) = Unit {0}
HasRoom s (Restagger p) = 0 < s.plan_spare

-- each of the events finds room
unfoldable pub HasRoomAlong : {W : Type 0} → MirrorState W → List Event → Type 0
HasRoomAlong s [] = Unit {0}
HasRoomAlong s (e ∷ es) = HasRoom s e × HasRoomAlong (next s e) es

-- how many copies an answer says were repaired
abbrev pub repaired_in : Reply → ℕ
repaired_in (ToTick ticked) = 0
repaired_in (ToArrive (Taken n)) = n
repaired_in (ToArrive Repeat) = 0
repaired_in (ToArrive (Late bound)) = 0
repaired_in (ToStep (Ran n)) = n
repaired_in (ToStep Idle) = 0
repaired_in Restaggered = 0

-- how many copies answers say were repaired, in all
unfoldable pub repairs_in : List Reply → ℕ
repairs_in [] = 0
repairs_in (r ∷ rs) = repaired_in r + repairs_in rs

-- how many copies a mirror repaired, in all
abbrev pub repairs : {W : Type 0} → MirrorState W → ℕ
repairs s = repairs_in (answers (first_state s) s.history)
