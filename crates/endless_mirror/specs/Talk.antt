-- A whole talk with a mirror of a session without an end, beside the mirror that remembers all of it.
use Rattle.std.specs.Prelude.{◌≡◌, ℕ, ◌+◌, ◌-◌, ◌<◌, nat_le, if◌then◌else◌, List, [], ◌∷◌, ◌++◌, map, filter, length, is_some}
use Rattle.game_trait.specs.declared.command.Command.{Command}
use Rattle.game_trait.specs.declared.event.Event.TheVariants as events
use Rattle.game_trait.specs.declared.event.Reply.{Reply}
use Rattle.game_trait.specs.declared.event.Reply.TheVariants.{Tick as ToTick, Arrive as ToArrive}
use Rattle.game_trait.specs.declared.event.Ticked.TheVariants.{Over}
use Rattle.game_trait.specs.Game.{Rules}
use Rattle.game_trait.specs.Ordered.{ordered}
use Rattle.game_trait.specs.Run.{world_of}
use Rattle.command_lines.specs.CommandLine.{command_line}
use Rattle.tss_io.specs.Lines.{as_line, lines_text}
use Rattle.sync_model.specs.Change.{said, answers}
use Rattle.sync_model.specs.Drafts.{run_of}
use Rattle.sync_model.specs.Forgetting.{said_from}
use Rattle.sync_model.specs.State.{MirrorState, opening_state, copy_clock}
use Rattle.sync_model.specs.TimeOrder.{KeysDiffer}
use Rattle.sync_model.specs.Turns.{steps_from, turn_events}
use Rattle.report_text.specs.Replies.{tick_text, arrival_text}
use Rattle.report_text.specs.Worlds.{Showing, block_text, copy_head}
use Rattle.match_data.specs.Data.{MatchData, all_plans}
use Rattle.rolling_mirror.specs.Rolling.{IsWindowOf, is_held, said_to_arrival, as_arrived}
use Rattle.live_text.specs.Requests.{FitsTerms}
use Rattle.live_text.specs.declared.request.Request.{Request}
use Rattle.live_text.specs.declared.request.Request.TheVariants.{Own, Cmd, Tick, Turn, Step, Restagger, World, Run, Commands, End}
use Rattle.endless_mirror.specs.Session.{SessionState, is_past, own_command, terms_of, after_request}
use Rattle.endless_mirror.specs.Stands.{Stands, whole_after}
use Rattle.endless_mirror.specs.Told.{arrival_told, turn_reply_text, replies_told, step_told, base_line, log_line}

-- ---- requests, one after another

unfoldable pub after_requests : {W : Type 0} → Rules W → SessionState W → List Request → SessionState W
after_requests rules s [] = s
after_requests rules s (r ∷ rs) = after_requests rules (after_request rules s r) rs

-- each can be made where it comes
unfoldable pub FitAlong : {W : Type 0} → Rules W → SessionState W → List Request → Type 0
FitAlong rules s [] = Unit {0}
FitAlong rules s (r ∷ rs) = FitsTerms (terms_of s) r × FitAlong rules (after_request rules s r) rs

-- the mirror that remembers all, after them
unfoldable pub whole_along :
    {W : Type 0} → Rules W → MirrorState W → SessionState W → List Request → MirrorState W
whole_along rules whole s [] = whole
whole_along rules whole s (r ∷ rs) =
    whole_along rules (whole_after whole s r) (after_request rules s r) rs

-- as a session begins that has less than n ticks
abbrev pub opening_whole : {W : Type 0} → W → MatchData → ℕ → MirrorState W
opening_whole opening m n = opening_state opening n (all_plans m) 0 0

-- a mirror is the window of one that remembers all, which isn't at its end, and no two of whose commands
-- have one key
pub record IsWholeOf {W : Type 0} (rules : Rules W) (whole : MirrorState W) (s : SessionState W) :
    Type 0 where
  pub stands : Stands s.mirror
  pub window : IsWindowOf rules whole s.mirror
  pub before_end : whole.clock + 1 < whole.length
  pub keys_differ : KeysDiffer whole.accepted

-- ---- what is told, of the mirror that remembers all

-- the line of an answer to a command
unfoldable pub reply_text : ℕ → Command → Reply → List ℕ
reply_text number x (ToArrive arrived) = arrival_text number x.from x.number arrived
reply_text number x reply = []

-- the block of a copy
abbrev pub copy_of_whole : {W : Type 0} → Showing W → ℕ → MirrorState W → ℕ → List ℕ
copy_of_whole show number whole copy =
    block_text show.lines show.names (copy_head number copy (copy_clock whole.runs copy))
    (world_of show.rules whole.opening (run_of whole copy))

-- the commands that are due at a tick or later
abbrev pub due_on : {W : Type 0} → ℕ → MirrorState W → List Command
due_on b whole = filter (λ x. nat_le b x.time) whole.accepted

abbrev pub commands_of_whole : {W : Type 0} → ℕ → MirrorState W → List ℕ
commands_of_whole b whole = lines_text (map command_line (due_on b whole))

-- the world at tick b, in time order, the commands from there on, and the last copy
abbrev pub end_of_whole : {W : Type 0} → Showing W → ℕ → ℕ → MirrorState W → List ℕ
end_of_whole show number b whole =
    base_line number b
    ++ (block_text show.lines show.names (copy_head number (length whole.runs - 1) b)
    (world_of show.rules whole.opening (ordered whole.accepted 0 b))
    ++ (log_line number (length (due_on b whole))
    ++ (commands_of_whole b whole ++ copy_of_whole show number whole (length whole.runs - 1))))

-- what is told of a request: of the mirror at hand only its number, its base, and whether its window and
-- its room let it tick and take the command
unfoldable pub told_of_whole : {W : Type 0} → Showing W → MirrorState W → SessionState W → Request → List ℕ
told_of_whole show whole s (Own player act) =
    if is_past s then tick_text s.number Over
    else as_line (command_line (record (own_command s player act) { time = whole.clock }))
told_of_whole show whole s (Cmd x) =
    if is_some (as_arrived (said_to_arrival s.mirror x))
    then reply_text s.number x (said_from s.mirror.base whole x)
    else arrival_told s.number x (said_to_arrival s.mirror x)
told_of_whole show whole s Tick =
    if is_held s.mirror then tick_text s.number Over
    else turn_reply_text s.number (said whole events.Tick)
told_of_whole show whole s Turn =
    replies_told s.number
    (if is_held s.mirror then ToTick Over ∷ answers whole (steps_from 0 (length whole.runs))
    else answers whole (turn_events (length whole.runs)))
told_of_whole show whole s (Step copy) = step_told s.number copy (said whole (events.Step copy))
told_of_whole show whole s (Restagger plan) = []
told_of_whole show whole s (World copy) = copy_of_whole show s.number whole copy
told_of_whole show whole s (Run copy) = []
told_of_whole show whole s Commands = commands_of_whole s.mirror.base whole
told_of_whole show whole s End = end_of_whole show s.number s.mirror.base whole
