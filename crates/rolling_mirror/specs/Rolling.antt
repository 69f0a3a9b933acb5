-- What contracts see of a mirror of a session without an end, and the mirror that remembers all of it.
use Rattle.std.specs.Prelude.{ℕ, ◌+◌, ◌-◌, ◌^◌, ◌≤◌, Bool, nat_le, nat_lt, ◌==◌, ◌&&◌, ◌||◌, if◌then◌else◌, List, [], ◌∷◌, ◌++◌, length, Option, Some, None}
use Rattle.game_trait.specs.declared.command.Command.{Command}
use Rattle.game_trait.specs.declared.event.Event.{Event}
use Rattle.game_trait.specs.declared.event.Event.TheVariants.{Tick, Arrive}
use Rattle.game_trait.specs.declared.event.Arrived.{Arrived}
use Rattle.game_trait.specs.declared.event.Arrived.TheVariants.{Taken as AsTaken, Repeat as AsRepeat, Late as AsLate}
use Rattle.game_trait.specs.declared.event.Reply.{Reply}
use Rattle.game_trait.specs.declared.event.Reply.TheVariants.{Tick as ToTick}
use Rattle.game_trait.specs.declared.event.Ticked.{Ticked}
use Rattle.game_trait.specs.declared.event.Ticked.TheVariants.{Moved, Over}
use Rattle.game_trait.specs.Game.{Rules}
use Rattle.game_trait.specs.Later.{earlier, left_commands}
use Rattle.game_trait.specs.Shifted.{ShiftedWorld}
use Rattle.sync_model.specs.Schedule.{Schedule, delays_of_each, longest_delay}
use Rattle.sync_model.specs.State.{MirrorState, last_clock}
use Rattle.sync_model.specs.Settle.{repaired}
use Rattle.sync_model.specs.Change.{next, said, is_repeat, proposed_by_arrival}
use Rattle.sync_model.specs.Turns.{steps_from}
use Rattle.sync_model.specs.Forgetting.{IsLeft, forgotten}
use Rattle.trailing_copy.specs.Stack.{LazyCopies}
use Rattle.rolling_mirror.specs.declared.arrival.Arrival.{Arrival}
use Rattle.rolling_mirror.specs.declared.arrival.Arrival.TheVariants.{Taken, Repeat, Late, Far, Full}

-- a mirror that forgets what lies behind its last copy
pub record RollState (W : Type 0) : Type 0 where
  -- the session's tick from which the times of what is left are told
  pub base : ℕ
  -- what is left, a mirror of a window of the session, without lists of what was turned away and of
  -- events, and without room
  pub left : MirrorState W
  -- for how many more commands there is room
  pub spare : ℕ
  -- how many ticks of the window the last copy runs before a tick forgets
  pub keep : ℕ

-- the window lets turns go on: it is longer by two ticks than the delay of the last copy
abbrev pub LetsTurnsGoOn : Schedule → Type 0
LetsTurnsGoOn plan = longest_delay plan.delays + 2 ≤ plan.length

-- a mirror of these parts: its base, its copies, its plans and which is in force, its clock, and how
-- many ticks it keeps
abbrev pub rolling_view :
    {W : Type 0} → ℕ → LazyCopies (ShiftedWorld W) → List Schedule → ℕ → ℕ → ℕ → RollState W
rolling_view base stack plans plan clock keep = record {
  base = base;
  left = record {
    opening = stack.opening.world;
    length = stack.ticks;
    plans = delays_of_each plans;
    plan = plan;
    clock = clock;
    accepted = stack.accepted;
    turned = [];
    runs = stack.runs;
    history = [];
    spare = 0;
    plan_spare = 0;
  };
  spare = stack.spare;
  keep = keep;
}

-- a mirror remembers the whole session, and this is what is left of it
abbrev pub IsWindowOf : {W : Type 0} → Rules W → MirrorState W → RollState W → Type 0
IsWindowOf rules whole r = IsLeft rules r.base whole r.left

-- a state without lists of what was turned away and of events, and without room
abbrev pub without_lists : {W : Type 0} → MirrorState W → MirrorState W
without_lists s = record s { turned = []; history = []; spare = 0; plan_spare = 0 }

-- what is left after an event, whose times are told from the base
abbrev pub left_after : {W : Type 0} → RollState W → Event → RollState W
left_after r e = record r { left = without_lists (next r.left e) }

-- the session's tick up to which the last copy has run: a command for an earlier one is late
abbrev pub last_tick : {W : Type 0} → RollState W → ℕ
last_tick r = r.base + last_clock r.left.runs

-- the session's tick that the window doesn't reach
abbrev pub window_end : {W : Type 0} → RollState W → ℕ
window_end r = r.base + r.left.length

-- ---- forgetting

-- how many of the remembered commands lie behind the last copy
abbrev pub passed_commands : {W : Type 0} → MirrorState W → ℕ
passed_commands s = length s.accepted - length (left_commands (last_clock s.runs) s.accepted)

-- all is forgotten that lies behind the last copy: the window begins at its clock, and there is room
-- for as many commands more
abbrev pub rolled : {W : Type 0} → Rules W → RollState W → RollState W
rolled rules r = record r {
  base = last_tick r;
  left = forgotten rules r.base r.left;
  spare = r.spare + passed_commands r.left;
}

-- the clock stands at the window's last tick
abbrev pub is_full : {W : Type 0} → RollState W → Bool
is_full r = r.left.clock + 1 == r.left.length

-- a tick forgets where the last copy has run some tick of the window, and as many as are kept, or where
-- the window is full or there is no room for a command
abbrev pub forgets : {W : Type 0} → RollState W → Bool
forgets r =
    nat_lt 0 (last_clock r.left.runs)
    && (nat_le r.keep (last_clock r.left.runs) || (is_full r || (r.spare == 0)))

abbrev pub ready : {W : Type 0} → Rules W → RollState W → RollState W
ready rules r = if forgets r then rolled rules r else r

-- ---- events

-- the last copy is a whole window behind the clock, or this stands at the session's last tick
abbrev pub is_held : {W : Type 0} → RollState W → Bool
is_held r =
    ((last_clock r.left.runs == 0) && is_full r) || (r.base + r.left.clock == 2 ^ 32 - 1)

abbrev pub ticked : {W : Type 0} → Rules W → RollState W → RollState W
ticked rules r = if is_held r then r else left_after (ready rules r) Tick

abbrev pub said_to_tick : {W : Type 0} → RollState W → Ticked
said_to_tick r = if is_held r then Over else Moved

-- the same command, its time told from the base
abbrev pub in_window : {W : Type 0} → RollState W → Command → Command
in_window r x = earlier r.base x

-- the answer to a command: Repeat where its name is remembered, else Late where the last copy has run
-- its tick, else Far where the window doesn't reach it, else Full where there is no room
abbrev pub said_to_arrival : {W : Type 0} → RollState W → Command → Arrival
said_to_arrival r x =
    if is_repeat r.left x then Repeat
    else if nat_lt x.time (last_tick r) then Late (last_tick r)
    else if nat_le (window_end r) x.time then Far (window_end r)
    else if r.spare == 0 then Full
    else Taken (repaired (r.left.accepted ++ in_window r x ∷ [])
    (proposed_by_arrival (in_window r x) r.left.runs))

-- the state after a command that was answered so
abbrev pub arrived : {W : Type 0} → RollState W → Command → Arrival → RollState W
arrived r x (Taken repaired) =
    record (left_after r (Arrive (in_window r x))) { spare = r.spare - 1 }
arrived r x Repeat = r
arrived r x (Late bound) = r
arrived r x (Far end) = r
arrived r x Full = r

-- the same answer in the words of a mirror that has room for all, and whose end is far
abbrev pub as_arrived : Arrival → Option Arrived
as_arrived (Taken repaired) = Some (AsTaken repaired)
as_arrived Repeat = Some AsRepeat
as_arrived (Late bound) = Some (AsLate bound)
as_arrived (Far end) = None
as_arrived Full = None

-- ---- several events

-- what is left after events, one after another, and the answers to them
unfoldable pub left_after_all : {W : Type 0} → RollState W → List Event → RollState W
left_after_all r [] = r
left_after_all r (e ∷ es) = left_after_all (left_after r e) es

unfoldable pub answers_left : {W : Type 0} → RollState W → List Event → List Reply
answers_left r [] = []
answers_left r (e ∷ es) = said r.left e ∷ answers_left (left_after r e) es

-- a step of each copy
abbrev pub steps_of_each : {W : Type 0} → RollState W → List Event
steps_of_each r = steps_from 0 (length r.left.runs)

-- a turn: a tick, and then a step of each copy from copy 0 on
abbrev pub turned : {W : Type 0} → Rules W → RollState W → RollState W
turned rules r = left_after_all (ticked rules r) (steps_of_each (ticked rules r))

abbrev pub said_to_turn : {W : Type 0} → Rules W → RollState W → List Reply
said_to_turn rules r =
    ToTick (said_to_tick r) ∷ answers_left (ticked rules r) (steps_of_each (ticked rules r))
