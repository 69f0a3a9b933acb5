-- What happens to the mirrors of a match: along its script, and while they are drained. Nothing is
-- printed here.
use Rattle.std.specs.Prelude.{◌≡◌, ◌<◌, ◌≤◌, slice_index_or, ℕ, zero, suc, ◌+◌, Bool, false, ◌==◌, List, [], ◌∷◌, Option, Some, None, map, length}
use Rattle.game_trait.specs.declared.command.Command.{Command}
use Rattle.game_trait.specs.declared.event.Event.{Event}
use Rattle.game_trait.specs.declared.event.Event.TheVariants.{Tick, Arrive, Step, Restagger}
use Rattle.game_trait.specs.declared.event.Reply.{Reply}
use Rattle.game_trait.specs.CommandList.{command_named}
use Rattle.game_trait.specs.Count.{times}
use Rattle.sync_model.specs.State.{MirrorState, opening_state}
use Rattle.sync_model.specs.Change.{after, answers}
use Rattle.sync_model.specs.Turns.{turn_events, drain}
use Rattle.match_data.specs.Data.{MatchData}
pub use Rattle.match_data.specs.Data.{all_plans, schedules}
use Rattle.match_data.specs.declared.script_line.ScriptLine.{ScriptLine}
use Rattle.match_data.specs.declared.script_line.ScriptLine.TheVariants as lines
use Rattle.match_data.specs.declared.log.MirrorLog.{MirrorLog}

-- the arrival of a command, if there is one
abbrev pub arrival_of : Option Command → List Event
arrival_of None = []
arrival_of (Some x) = Arrive x ∷ []

-- the mirror that a script line names
abbrev pub mirror_of : ScriptLine → ℕ
mirror_of (lines.Tick mirror) = mirror
mirror_of (lines.Turn mirror) = mirror
mirror_of (lines.Arrive mirror from number) = mirror
mirror_of (lines.Step mirror copy) = mirror
mirror_of (lines.World mirror copy) = mirror
mirror_of (lines.Run mirror copy) = mirror
mirror_of (lines.Restagger mirror plan) = mirror

-- the events that a script line makes at a mirror with this number of copies
unfoldable pub events_of : List Command → ℕ → ScriptLine → List Event
events_of commands copies (lines.Tick mirror) = Tick ∷ []
events_of commands copies (lines.Turn mirror) = turn_events copies
events_of commands copies (lines.Arrive mirror from number) =
    arrival_of (command_named commands from number)
events_of commands copies (lines.Step mirror copy) = Step copy ∷ []
events_of commands copies (lines.World mirror copy) = []
events_of commands copies (lines.Run mirror copy) = []
events_of commands copies (lines.Restagger mirror plan) = Restagger plan ∷ []

-- the mirror after a script line that names it, and what it answers
abbrev pub after_line : {W : Type 0} → List Command → ScriptLine → MirrorState W → MirrorState W
after_line commands l s = after s (events_of commands (length s.runs) l)

abbrev pub replies_to : {W : Type 0} → List Command → ScriptLine → MirrorState W → List Reply
replies_to commands l s = answers s (events_of commands (length s.runs) l)

-- the mirror after script lines that all name it
unfoldable pub after_lines : {W : Type 0} → List Command → List ScriptLine → MirrorState W
    → MirrorState W
after_lines commands [] s = s
after_lines commands (l ∷ ls) s = after_lines commands ls (after_line commands l s)

-- a script line names this mirror
abbrev pub names : ℕ → ScriptLine → Bool
names number l = mirror_of l == number

-- a list whose element of this number, if there is one, is what f makes of it, and what g tells of
-- that element
unfoldable pub changed_at : {X : Type 0} → (X → X) → ℕ → List X → List X
changed_at f i [] = []
changed_at f zero (x ∷ xs) = f x ∷ xs
changed_at f (suc i) (x ∷ xs) = x ∷ changed_at f i xs

unfoldable pub told_at : {X Y : Type 0} → (X → List Y) → ℕ → List X → List Y
told_at g i [] = []
told_at g zero (x ∷ xs) = g x
told_at g (suc i) (x ∷ xs) = told_at g i xs

-- all mirrors after script lines: each line happens at the mirror that it names
unfoldable pub after_script : {W : Type 0} → List Command → List (MirrorState W) → List ScriptLine
    → List (MirrorState W)
after_script commands mirrors [] = mirrors
after_script commands mirrors (l ∷ ls) =
    after_script commands (changed_at (after_line commands l) (mirror_of l) mirrors) ls

-- a script line is an arrival at this mirror
abbrev pub arrives_at : ℕ → ScriptLine → Bool
arrives_at number (lines.Arrive mirror from named) = mirror == number
arrives_at number (lines.Tick mirror) = false
arrives_at number (lines.Turn mirror) = false
arrives_at number (lines.Step mirror copy) = false
arrives_at number (lines.World mirror copy) = false
arrives_at number (lines.Run mirror copy) = false
arrives_at number (lines.Restagger mirror plan) = false

-- a script line changes the plan of this mirror
abbrev pub restaggers_at : ℕ → ScriptLine → Bool
restaggers_at number (lines.Restagger mirror plan) = mirror == number
restaggers_at number (lines.Tick mirror) = false
restaggers_at number (lines.Turn mirror) = false
restaggers_at number (lines.Arrive mirror from named) = false
restaggers_at number (lines.Step mirror copy) = false
restaggers_at number (lines.World mirror copy) = false
restaggers_at number (lines.Run mirror copy) = false

-- mirror by mirror, how many lines of the script are arrivals there, and how many change its plan
abbrev pub AreRooms : List ℕ → List ℕ → List ScriptLine → Type 0
AreRooms arrivals changes script = (k : ℕ) → k < 8
    → (slice_index_or arrivals k 0 ≡ times (arrives_at k) script)
    × (slice_index_or changes k 0 ≡ times (restaggers_at k) script)
    × (slice_index_or arrivals k 0 ≤ length script)
    × (slice_index_or changes k 0 ≤ length script)

-- a mirror as the match begins, with room for each of its arrivals and each change of its plan
unfoldable pub opening_mirror : {W : Type 0} → W → MatchData → ℕ → MirrorState W
opening_mirror opening m number =
    opening_state opening m.length (all_plans m) (times (arrives_at number) m.script)
    (times (restaggers_at number) m.script)

-- a number of mirrors as the match begins, of which the first has this number
unfoldable pub opening_from : {W : Type 0} → W → MatchData → ℕ → ℕ → List (MirrorState W)
opening_from opening m number zero = []
opening_from opening m number (suc n) =
    opening_mirror opening m number ∷ opening_from opening m (number + 1) n

-- all mirrors as the match begins, after its script, and after draining
abbrev pub opening_mirrors : {W : Type 0} → W → MatchData → List (MirrorState W)
opening_mirrors opening m = opening_from opening m 0 m.mirrors

abbrev pub scripted : {W : Type 0} → W → MatchData → List (MirrorState W)
scripted opening m = after_script m.commands (opening_mirrors opening m) m.script

abbrev pub played : {W : Type 0} → W → MatchData → List (MirrorState W)
played opening m = map (λ s. drain s) (scripted opening m)

-- the log of the mirror of this number
abbrev pub log_of : {W : Type 0} → ℕ → MirrorState W → MirrorLog
log_of number s = record { mirror = number; events = s.history }

-- the logs of mirrors, of which the first has this number
unfoldable pub logs_from : {W : Type 0} → ℕ → List (MirrorState W) → List MirrorLog
logs_from number [] = []
logs_from number (s ∷ ss) = log_of number s ∷ logs_from (number + 1) ss
