-- What C is answered, and what a call leaves.
use Rattle.std.specs.Prelude.{ℕ, Bool, ◌-◌, ◌≡◌, ◌==◌, ◌&&◌, ◌^◌, nat_le, nat_lt, min, if◌then◌else◌, List, [], ◌∷◌, length, Option, Some, None}
use Rattle.game_trait.specs.declared.command.Act.TheVariants.{Go}
use Rattle.game_trait.specs.declared.command.Command.{Command}
use Rattle.game_trait.specs.declared.command.Item.{Item}
use Rattle.game_trait.specs.declared.command.Item.TheVariants.{Cmd, Beat}
use Rattle.game_trait.specs.declared.event.Event.{Event}
use Rattle.game_trait.specs.declared.event.Event.TheVariants.{Tick, Arrive, Step, Restagger}
use Rattle.game_trait.specs.declared.event.Reply.{Reply}
use Rattle.game_trait.specs.declared.event.Reply.TheVariants.{Tick as ToTick, Arrive as ToArrive, Step as ToStep, Restaggered}
use Rattle.game_trait.specs.declared.event.Ticked.TheVariants.{Moved, Over}
use Rattle.game_trait.specs.declared.event.Arrived.TheVariants.{Taken, Repeat, Late}
use Rattle.game_trait.specs.declared.event.Stepped.TheVariants.{Ran, Idle}
use Rattle.std.specs.List.{list_any}
use Rattle.sync_model.specs.State.{MirrorState, last_clock, opening_state}
use Rattle.sync_model.specs.Change.{next, said, answers, is_repeat, is_late}
use Rattle.sync_model.specs.Drafts.{run_of}
use Rattle.sync_model.specs.Turns.{turn, turn_events}
use Rattle.sync_model.specs.declared.turned.Turned.{Turned}
use Rattle.sync_model.specs.Host.{most_repaired}
use Rattle.host_parts.specs.Rising.{ArePlans}
use Rattle.mirror_c.specs.declared.answer.Answer.{Answer}
use Rattle.mirror_c.specs.declared.answer.RunItem.{RunItem}
use Rattle.mirror_c.specs.declared.answer.CommandItem.{CommandItem}
use Rattle.mirror_c.specs.declared.answer.TurnedItem.{TurnedItem}
use Rattle.mirror_c.specs.declared.answer.HistoryItem.{HistoryItem}
use Rattle.host_parts.specs.declared.blank.Blank.{Blank}
use Rattle.mirror_c.specs.declared.engine.Engine.{Engine}
use Rattle.mirror_c.specs.declared.codes.TheConstants.{A_TICK, AN_ARRIVAL, A_STEP, A_RESTAGGER, MOVED, OVER, TAKEN, REPEAT, LATE, RAN, IDLE, RESTAGGERED, VALUE, NO_ENGINE, NOT_THERE, BEYOND, NO_ROOM}

-- a kind alone
abbrev pub refused : ℕ → Answer
refused kind = record { kind = kind; value = 0 }

-- a reply as C sees it
abbrev pub told : Reply → Answer
told (ToTick Moved) = refused MOVED
told (ToTick Over) = refused OVER
told (ToArrive (Taken n)) = record { kind = TAKEN; value = n }
told (ToArrive Repeat) = refused REPEAT
told (ToArrive (Late bound)) = record { kind = LATE; value = bound }
told (ToStep (Ran n)) = record { kind = RAN; value = n }
told (ToStep Idle) = refused IDLE
told Restaggered = refused RESTAGGERED

-- an item as C sees it
abbrev pub told_item : Item → RunItem
told_item (Cmd x) = record { is_beat = 0; from = x.from; number = x.number; time = x.time }
told_item Beat = record { is_beat = 1; from = 0; number = 0; time = 0 }

-- a command of which only the mirror, the number and the time are known here
abbrev pub command : ℕ → ℕ → ℕ → Command
command time from number = record { time = time; number = number; from = from; player = 0; act = Go }

-- what was turned away has the mirror and number of this command
abbrev pub has_name_of : Command → Turned → Bool
has_name_of x a = (a.from == x.from) && (a.number == x.number)

-- a command is late, as one of its mirror and number was before
abbrev pub is_late_again : {W : Type 0} → MirrorState W → Command → Bool
is_late_again s x = is_late s x && list_any (has_name_of x) s.turned

-- what is answered to an event that isn't made: to what changes nothing, before what is refused
abbrev pub refusal : {W : Type 0} → MirrorState W → Event → Option Answer
refusal s Tick = None
refusal s (Arrive x) =
    if is_repeat s x then Some (refused REPEAT)
    else if is_late_again s x then Some (record { kind = LATE; value = last_clock s.runs })
    else if nat_le s.length x.time then Some (refused BEYOND)
    else if s.spare == 0 then Some (refused NO_ROOM)
    else None
refusal s (Step c) = if nat_le (length s.runs) c then Some (refused NOT_THERE) else None
refusal s (Restagger p) =
    if nat_le (length s.plans) p then Some (refused NOT_THERE)
    else if s.plan_spare == 0 then Some (refused NO_ROOM) else None

-- the state that is left, and the answer, where an event isn't made for this answer's cause
abbrev pub left_by : {W : Type 0} → MirrorState W → Event → Option Answer → MirrorState W
left_by s e None = next s e
left_by s e (Some why) = s

abbrev pub answer_by : {W : Type 0} → MirrorState W → Event → Option Answer → Answer
answer_by s e None = told (said s e)
answer_by s e (Some why) = why

-- the state after a call that makes an event, and what is answered
abbrev pub made : {W : Type 0} → MirrorState W → Event → MirrorState W
made s e = left_by s e (refusal s e)

abbrev pub answered : {W : Type 0} → MirrorState W → Event → Answer
answered s e = answer_by s e (refusal s e)

-- the same of a handle, which may hold no engine
abbrev pub after_call : Option Engine → Event → Option Engine
after_call None e = None
after_call (Some engine) e = Some (record { mirror = made engine.mirror e })

abbrev pub answer_to : Option Engine → Event → Answer
answer_to None e = refused NO_ENGINE
answer_to (Some engine) e = answered engine.mirror e

-- an arrival by a call: of a mirror whose number is a byte
abbrev pub after_arrival : Option Engine → ℕ → ℕ → ℕ → Option Engine
after_arrival engine time from number =
    if nat_lt 255 from then engine else after_call engine (Arrive (command time from number))

abbrev pub answer_to_arrival : Option Engine → ℕ → ℕ → ℕ → Answer
answer_to_arrival None time from number = refused NO_ENGINE
answer_to_arrival (Some engine) time from number =
    if nat_lt 255 from then refused NOT_THERE
    else answered engine.mirror (Arrive (command time from number))

-- an engine of the plans that these delays spell, before any event
abbrev pub IsOpened : List ℕ → ℕ → ℕ → ℕ → ℕ → Engine → Type 0
IsOpened delays copies ticks room restaggers engine =
    ArePlans delays copies ticks engine.mirror.plans
    × (engine.mirror
    ≡ opening_state engine.mirror.opening ticks engine.mirror.plans room restaggers)

abbrev pub IsMade : List ℕ → ℕ → ℕ → ℕ → ℕ → Option Engine → Type 0
IsMade delays copies ticks room restaggers None = ⊥
IsMade delays copies ticks room restaggers (Some engine) =
    IsOpened delays copies ticks room restaggers engine

-- what a question to a handle is answered
abbrev pub answer_from : Option Engine → (MirrorState Blank → Answer) → Answer
answer_from None f = refused NO_ENGINE
answer_from (Some engine) f = f engine.mirror

-- a number
abbrev pub valued : ℕ → Answer
valued n = record { kind = VALUE; value = n }

-- a number of a copy's run
abbrev pub of_copy : {W : Type 0} → ℕ → (List Item → ℕ) → MirrorState W → Answer
of_copy c f s = if nat_le (length s.runs) c then refused NOT_THERE else valued (f (run_of s c))

-- how many items of a copy's run from a place on are put into so much room
abbrev pub items_put : {W : Type 0} → ℕ → ℕ → ℕ → MirrorState W → ℕ
items_put c place room s =
    if nat_le (length s.runs) c then 0
    else if nat_lt (length (run_of s c)) place then 0
    else min (length (run_of s c) - place) room

-- what is answered then
abbrev pub items_answer : {W : Type 0} → ℕ → ℕ → ℕ → MirrorState W → Answer
items_answer c place room s =
    if nat_le (length s.runs) c then refused NOT_THERE
    else if nat_lt (length (run_of s c)) place then refused NOT_THERE
    else valued (min (length (run_of s c) - place) room)

-- the answer to a turn: that of its tick, and the most copies that one of its steps repaired
abbrev pub told_turn : List Reply → Answer
told_turn [] = refused OVER
told_turn (ticked ∷ steps) =
    record { kind = (told ticked).kind; value = most_repaired (ticked ∷ steps) }

abbrev pub turned_answer : {W : Type 0} → MirrorState W → Answer
turned_answer s = told_turn (answers s (turn_events (length s.runs)))

-- the same of a handle
abbrev pub after_turn : Option Engine → Option Engine
after_turn None = None
after_turn (Some engine) = Some (record { mirror = turn engine.mirror })

-- a command that was accepted, as C sees it
abbrev pub told_command : Command → CommandItem
told_command x = record { from = x.from; number = x.number; time = x.time }

-- a command that was turned away, as C sees it
abbrev pub told_turned : Turned → TurnedItem
told_turned away = record { from = away.from; number = away.number; bound = away.bound }

-- an event of the history, as C sees it
abbrev pub told_event : Event → HistoryItem
told_event Tick = record { what = A_TICK; which = 0; time = 0; from = 0; number = 0 }
told_event (Arrive x) =
    record { what = AN_ARRIVAL; which = 0; time = x.time; from = x.from; number = x.number }
told_event (Step c) = record { what = A_STEP; which = c; time = 0; from = 0; number = 0 }
told_event (Restagger p) = record { what = A_RESTAGGER; which = p; time = 0; from = 0; number = 0 }

-- how many of a list of so many from a place on are put into so much room
abbrev pub put_of : ℕ → ℕ → ℕ → ℕ
put_of count place room = min (count - place) (min room (2 ^ 32 - 1))

-- what is answered then
abbrev pub put_answer : ℕ → ℕ → ℕ → Answer
put_answer count place room =
    if nat_lt count place then refused NOT_THERE else valued (put_of count place room)
