-- What is printed of a match that is played. Mirrors are only looked at here.
use Rattle.std.specs.Prelude.{ℕ, ◌+◌, List, [], ◌∷◌, ◌++◌, flat_map}
use Rattle.game_trait.specs.declared.command.Command.{Command}
use Rattle.game_trait.specs.declared.event.Reply.{Reply}
use Rattle.game_trait.specs.declared.event.Reply.TheVariants.{Tick as ToTick, Arrive as ToArrive, Step as ToStep}
use Rattle.sync_model.specs.State.{MirrorState}
pub use Rattle.sync_model.specs.Drafts.{run_of}
use Rattle.sync_model.specs.History.{repaired_in}
use Rattle.sync_model.specs.Turns.{drain_bound}
use Rattle.match_data.specs.Data.{MatchData}
use Rattle.match_data.specs.declared.script_line.ScriptLine.{ScriptLine}
use Rattle.match_data.specs.declared.script_line.ScriptLine.TheVariants as lines
use Rattle.report_text.specs.Replies.{repair_line, tick_text, arrival_text, step_text}
use Rattle.report_text.specs.Mirrors.{run_line}
pub use Rattle.report_text.specs.Worlds.{Showing, showing, copy_block}
use Rattle.report_text.specs.Ends.{done_line}
use Rattle.mirror_report.specs.Report.{drain_text, line_of_mirror, copy_blocks}
use Rattle.match_hall.specs.Script.{mirror_of, after_line, replies_to, changed_at, told_at, opening_mirrors, scripted, played}

-- ---- script lines

-- what one answer to an event of a script line prints; an answer of a turn prints its repair alone
unfoldable pub reply_text : ScriptLine → Reply → List ℕ
reply_text (lines.Turn mirror) reply = repair_line mirror (repaired_in reply)
reply_text (lines.Tick mirror) (ToTick ticked) = tick_text mirror ticked
reply_text (lines.Arrive mirror from number) (ToArrive arrived) =
    arrival_text mirror from number arrived
reply_text (lines.Step mirror copy) (ToStep stepped) = step_text mirror copy stepped
reply_text l reply = []

-- what answers to the events of a script line print
abbrev pub replies_text : ScriptLine → List Reply → List ℕ
replies_text l replies = flat_map (reply_text l) replies

-- what a script line prints at its mirror as it stands before the line
unfoldable pub line_text : {W : Type 0} → Showing W → List Command → ScriptLine → MirrorState W
    → List ℕ
line_text show commands (lines.World mirror copy) s =
    copy_block show mirror s.opening copy (run_of s copy)
line_text show commands (lines.Run mirror copy) s = run_line mirror copy (run_of s copy)
line_text show commands l s = replies_text l (replies_to commands l s)

-- what script lines print, one after the other, from these mirrors on
unfoldable pub script_text : {W : Type 0} → Showing W → List Command → List (MirrorState W)
    → List ScriptLine → List ℕ
script_text show commands mirrors [] = []
script_text show commands mirrors (l ∷ ls) =
    told_at (line_text show commands l) (mirror_of l) mirrors
    ++ script_text show commands (changed_at (after_line commands l) (mirror_of l) mirrors) ls

-- ---- draining

-- what draining prints of mirrors one after the other, of which the first has this number
unfoldable pub drains_text : {W : Type 0} → ℕ → List (MirrorState W) → List ℕ
drains_text number [] = []
drains_text number (s ∷ ss) = drain_text number (drain_bound s) s ++ drains_text (number + 1) ss

-- ---- mirrors

-- the lines of mirrors alone; the first has this number
unfoldable pub lines_of_mirrors : {W : Type 0} → ℕ → List (MirrorState W) → List ℕ
lines_of_mirrors number [] = []
lines_of_mirrors number (s ∷ ss) = line_of_mirror number s ++ lines_of_mirrors (number + 1) ss

-- the lines of mirrors, each with its copies' blocks; the first has this number
unfoldable pub mirrors_text : {W : Type 0} → Showing W → ℕ → List (MirrorState W) → List ℕ
mirrors_text show number [] = []
mirrors_text show number (s ∷ ss) =
    (line_of_mirror number s ++ copy_blocks show number s.opening 0 s.runs)
    ++ mirrors_text show (number + 1) ss

-- ---- the whole text

-- what `play` prints of a match that opens so: its script, draining, and the mirrors at the end
unfoldable pub play_text : {W : Type 0} → Showing W → W → MatchData → List ℕ
play_text show opening m =
    script_text show m.commands (opening_mirrors opening m) m.script
    ++ (drains_text 0 (scripted opening m) ++ (mirrors_text show 0 (played opening m) ++ done_line))
