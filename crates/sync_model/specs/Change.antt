-- How an event changes a mirror, and what is answered.
use Rattle.std.specs.Prelude.{ℕ, ◌+◌, ◌-◌, ◌<◌, Bool, true, false, nat_lt, nat_le, if◌then◌else◌, List, [], ◌∷◌, ◌++◌, map, length, slice_index_or, slice_set}
use Rattle.std.specs.List.{list_any}
use Rattle.game_trait.specs.declared.command.Command.{Command}
use Rattle.game_trait.specs.declared.command.Item.{Item}
use Rattle.game_trait.specs.declared.command.Item.TheVariants.{Cmd}
use Rattle.game_trait.specs.declared.event.Event.{Event}
use Rattle.game_trait.specs.declared.event.Event.TheVariants.{Tick, Arrive, Step, Restagger}
use Rattle.game_trait.specs.declared.event.Reply.{Reply}
use Rattle.game_trait.specs.declared.event.Reply.TheVariants.{Tick as ToTick, Arrive as ToArrive, Step as ToStep, Restaggered}
use Rattle.game_trait.specs.declared.event.Ticked.TheVariants.{Moved, Over}
use Rattle.game_trait.specs.declared.event.Arrived.TheVariants.{Taken, Repeat, Late}
use Rattle.game_trait.specs.declared.event.Stepped.TheVariants.{Ran, Idle}
use Rattle.game_trait.specs.Run.{beats}
use Rattle.game_trait.specs.Keys.{same_name}
use Rattle.game_trait.specs.Ordered.{tick_of}
use Rattle.sync_model.specs.declared.turned.Turned.{Turned}
use Rattle.sync_model.specs.State.{MirrorState, schedule_of, copy_clock, last_clock, step_limit}
use Rattle.sync_model.specs.Schedule.{is_at_end}
use Rattle.sync_model.specs.Settle.{settle, repaired}

-- the clock stands at its end or past it: the match's length plus the longest delay in force
abbrev pub is_over : {W : Type 0} → MirrorState W → Bool
is_over s = is_at_end (schedule_of s) s.clock

-- a command with the same mirror and number was accepted before
abbrev pub is_repeat : {W : Type 0} → MirrorState W → Command → Bool
is_repeat s x = list_any (same_name x) s.accepted

-- the command is older than the last copy's clock
abbrev pub is_late : {W : Type 0} → MirrorState W → Command → Bool
is_late s x = nat_lt x.time (last_clock s.runs)

-- the copy stands at its limit
abbrev pub is_idle : {W : Type 0} → MirrorState W → ℕ → Bool
is_idle s c = nat_le (step_limit s c) (copy_clock s.runs c)

-- the run with the command at its end where the run's clock is past the command's time, and else
-- the run
unfoldable pub with_late : Command → List Item → List Item
with_late x run = if nat_lt x.time (beats run) then run ++ Cmd x ∷ [] else run

-- the runs that an arrival proposes
abbrev pub proposed_by_arrival : Command → List (List Item) → List (List Item)
proposed_by_arrival x runs = map (with_late x) runs

-- the run and one whole tick
unfoldable pub with_tick : List Command → List Item → List Item
with_tick accepted run = run ++ tick_of accepted (beats run)

-- the runs that a step of a copy proposes
abbrev pub proposed_by_step : List Command → List (List Item) → ℕ → List (List Item)
proposed_by_step accepted runs c = slice_set runs c (with_tick accepted (slice_index_or runs c []))

-- what is kept of a command that is turned away
abbrev pub turned_away : {W : Type 0} → MirrorState W → Command → Turned
turned_away s x = record { from = x.from; number = x.number; bound = last_clock s.runs }

-- the state after an event
unfoldable pub next : {W : Type 0} → MirrorState W → Event → MirrorState W
next s Tick =
    if is_over s then s else record s { clock = s.clock + 1; history = s.history ++ Tick ∷ [] }
next s (Arrive x) =
    if is_repeat s x then s
    else if is_late s x
    then record s {
      turned = s.turned ++ turned_away s x ∷ [];
      history = s.history ++ Arrive x ∷ [];
      spare = s.spare - 1;
    }
    else record s {
      accepted = s.accepted ++ x ∷ [];
      runs = settle (s.accepted ++ x ∷ []) (proposed_by_arrival x s.runs);
      history = s.history ++ Arrive x ∷ [];
      spare = s.spare - 1;
    }
next s (Step c) =
    if is_idle s c then s
    else record s {
      runs = settle s.accepted (proposed_by_step s.accepted s.runs c);
      history = s.history ++ Step c ∷ [];
    }
next s (Restagger p) =
    record s { plan = p; history = s.history ++ Restagger p ∷ []; plan_spare = s.plan_spare - 1 }

-- the answer to an event
unfoldable pub said : {W : Type 0} → MirrorState W → Event → Reply
said s Tick = ToTick (if is_over s then Over else Moved)
said s (Arrive x) =
    ToArrive (
    if is_repeat s x then Repeat
    else if is_late s x then Late (last_clock s.runs)
    else Taken (repaired (s.accepted ++ x ∷ []) (proposed_by_arrival x s.runs)))
said s (Step c) =
    ToStep (if is_idle s c then Idle
    else Ran (repaired s.accepted (proposed_by_step s.accepted s.runs c)))
said s (Restagger p) = Restaggered

-- an event that may be made: the command is due within the match, the copy or the plan is there
abbrev pub Fits : {W : Type 0} → MirrorState W → Event → Type 0
Fits s Tick = Unit {0}
Fits s (Arrive x) = x.time < s.length
Fits s (Step c) = c < length s.runs
Fits s (Restagger p) = p < length s.plans

-- an answer that tells of a change
abbrev pub is_change : Reply → Bool
is_change (ToTick Moved) = true
is_change (ToTick Over) = false
is_change (ToArrive (Taken n)) = true
is_change (ToArrive Repeat) = false
is_change (ToArrive (Late bound)) = true
is_change (ToStep (Ran n)) = true
is_change (ToStep Idle) = false
is_change Restaggered = true

-- an event changes the state
abbrev pub changes : {W : Type 0} → MirrorState W → Event → Bool
changes s e = is_change (said s e)

-- the state after a list of events
unfoldable pub after : {W : Type 0} → MirrorState W → List Event → MirrorState W
after s [] = s
after s (e ∷ es) = after (next s e) es

-- the answers to a list of events
unfoldable pub answers : {W : Type 0} → MirrorState W → List Event → List Reply
answers s [] = []
answers s (e ∷ es) = said s e ∷ answers (next s e) es
