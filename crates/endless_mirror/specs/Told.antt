-- What a mirror of a session without an end tells of a request.
use Rattle.std.specs.Prelude.{ℕ, ◌+◌, ◌-◌, List, [], ◌∷◌, ◌++◌, map, flat_map, length, codes, decimal, if◌then◌else◌}
use Rattle.game_trait.specs.declared.command.Command.{Command}
use Rattle.game_trait.specs.declared.event.Arrived.TheVariants.{Taken as ToTaken, Repeat as ToRepeat, Late as ToLate}
use Rattle.game_trait.specs.declared.event.Event.TheVariants as events
use Rattle.game_trait.specs.declared.event.Reply.{Reply}
use Rattle.game_trait.specs.declared.event.Reply.TheVariants.{Tick as ToTick, Step as ToStep}
use Rattle.game_trait.specs.declared.event.Stepped.TheVariants.{Ran}
use Rattle.game_trait.specs.declared.event.Ticked.TheVariants.{Over}
use Rattle.game_trait.specs.Later.{later, world_from}
use Rattle.command_lines.specs.CommandLine.{command_line}
use Rattle.tss_io.specs.Lines.{as_line, spaced, lines_text}
use Rattle.sync_model.specs.State.{copy_clock}
use Rattle.sync_model.specs.Drafts.{run_of}
use Rattle.sync_model.specs.Change.{said}
use Rattle.report_text.specs.Replies.{repair_line, tick_text, arrival_text, step_text}
use Rattle.report_text.specs.Worlds.{Showing, block_text, copy_head}
use Rattle.rolling_mirror.specs.declared.arrival.Arrival.{Arrival}
use Rattle.rolling_mirror.specs.declared.arrival.Arrival.TheVariants.{Taken, Repeat, Late, Far, Full}
use Rattle.rolling_mirror.specs.Rolling.{RollState, said_to_tick, said_to_arrival, said_to_turn}
use Rattle.live_text.specs.declared.request.Request.{Request}
use Rattle.live_text.specs.declared.request.Request.TheVariants.{Own, Cmd, Tick, Turn, Step, Restagger, World, Run, Commands, End}
use Rattle.endless_mirror.specs.Session.{SessionState, is_past, own_command}

-- the line of a command that is due at the window's end or later
abbrev pub far_line : ℕ → Command → ℕ → List ℕ
far_line mirror x end =
    as_line (spaced
    (codes "far" ∷ decimal mirror ∷ decimal x.from ∷ decimal x.number ∷ decimal end ∷ []))

-- what is told of the answer to a command at the mirror of this number
unfoldable pub arrival_told : ℕ → Command → Arrival → List ℕ
arrival_told number x (Taken repaired) = arrival_text number x.from x.number (ToTaken repaired)
arrival_told number x Repeat = arrival_text number x.from x.number ToRepeat
arrival_told number x (Late bound) = arrival_text number x.from x.number (ToLate bound)
arrival_told number x (Far end) = far_line number x end
arrival_told number x Full = []

-- what is told of an answer of a turn: a tick that moved nothing, and repairs
unfoldable pub turn_reply_text : ℕ → Reply → List ℕ
turn_reply_text number (ToTick ticked) = tick_text number ticked
turn_reply_text number (ToStep (Ran repaired)) = repair_line number repaired
turn_reply_text number reply = []

-- what is told of answers of a turn
abbrev pub replies_told : ℕ → List Reply → List ℕ
replies_told number replies = flat_map (turn_reply_text number) replies

-- what is told of the answer to a step of a copy
unfoldable pub step_told : ℕ → ℕ → Reply → List ℕ
step_told number copy (ToStep stepped) = step_text number copy stepped
step_told number copy reply = []

-- the block of a copy, its clock told in ticks of the session
abbrev pub copy_told : {W : Type 0} → Showing W → ℕ → RollState W → ℕ → List ℕ
copy_told show number r copy =
    block_text show.lines show.names
    (copy_head number copy (r.base + copy_clock r.left.runs copy))
    (world_from show.rules r.base r.left.opening (run_of r.left copy))

-- the commands that are remembered, at ticks of the session
abbrev pub remembered : {W : Type 0} → RollState W → List Command
remembered r = map (later r.base) r.left.accepted

abbrev pub commands_text : {W : Type 0} → RollState W → List ℕ
commands_text r = lines_text (map command_line (remembered r))

-- the number of the last copy
abbrev pub last_copy : {W : Type 0} → RollState W → ℕ
last_copy r = length r.left.runs - 1

-- the line of the tick from which on all is told, and the world there
abbrev pub base_line : ℕ → ℕ → List ℕ
base_line number base = as_line (spaced (codes "base" ∷ decimal number ∷ decimal base ∷ []))

abbrev pub base_block : {W : Type 0} → Showing W → ℕ → RollState W → List ℕ
base_block show number r =
    block_text show.lines show.names (copy_head number (last_copy r) r.base) r.left.opening

-- the line that opens what is remembered: how many commands these are
abbrev pub log_line : ℕ → ℕ → List ℕ
log_line number count = as_line (spaced (codes "log" ∷ decimal number ∷ decimal count ∷ []))

-- what is told of the mirror at its end: the world at the base, the commands that are remembered, and
-- the world of the last copy
abbrev pub end_text : {W : Type 0} → Showing W → ℕ → RollState W → List ℕ
end_text show number r =
    base_line number r.base
    ++ (base_block show number r
    ++ (log_line number (length r.left.accepted)
    ++ (commands_text r ++ copy_told show number r (last_copy r))))

-- what is told of a request, before the line that ends the answer
unfoldable pub answer_text : {W : Type 0} → Showing W → SessionState W → Request → List ℕ
answer_text show s (Own player act) =
    if is_past s then tick_text s.number Over
    else as_line (command_line (own_command s player act))
answer_text show s (Cmd x) = arrival_told s.number x (said_to_arrival s.mirror x)
answer_text show s Tick = tick_text s.number (said_to_tick s.mirror)
answer_text show s Turn = replies_told s.number (said_to_turn show.rules s.mirror)
answer_text show s (Step copy) =
    step_told s.number copy (said s.mirror.left (events.Step copy))
answer_text show s (Restagger plan) = []
answer_text show s (World copy) = copy_told show s.number s.mirror copy
answer_text show s (Run copy) = []
answer_text show s Commands = commands_text s.mirror
answer_text show s End = end_text show s.number s.mirror
