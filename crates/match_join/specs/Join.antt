-- A mirror of a match, and one that joins late from its snapshot: what happens to both along the
-- script, and what is printed of that.
use Rattle.std.specs.Prelude.{◌≡◌, ◌↔◌, ℕ, ◌+◌, ◌-◌, ◌<◌, Bool, IsTrue, List, [], ◌∷◌, ◌++◌, Option, Some, None, length, take, drop, filter, codes, decimal}
use Rattle.game_trait.specs.declared.command.Command.{Command}
use Rattle.game_trait.specs.CommandList.{command_named}
use Rattle.game_trait.specs.Count.{times}
use Rattle.game_trait.specs.Game.{Rules}
use Rattle.game_trait.specs.Run.{world_of}
use Rattle.tss_io.specs.Lines.{as_line, spaced}
use Rattle.sync_model.specs.State.{MirrorState, last_clock}
use Rattle.sync_model.specs.Drafts.{run_of}
use Rattle.sync_model.specs.History.{repairs}
use Rattle.sync_model.specs.Turns.{drain}
use Rattle.match_data.specs.Data.{MatchData}
use Rattle.match_data.specs.declared.script_line.ScriptLine.{ScriptLine}
use Rattle.match_data.specs.declared.script_line.ScriptLine.TheVariants as lines
use Rattle.report_text.specs.Soak.{same_line}
use Rattle.report_text.specs.Worlds.{Showing, block_text, copy_block}
use Rattle.report_text.specs.Ends.{done_line}
use Rattle.match_hall.specs.Script.{schedules, names, arrives_at, restaggers_at, events_of, after_lines, opening_mirror}
use Rattle.mirror_report.specs.Report.{line_of_mirror}
use Rattle.match_join.specs.declared.answer.JoinAnswer.{JoinAnswer}
use Rattle.match_join.specs.declared.answer.JoinAnswer.TheVariants.{Told, TooLate}
use Rattle.late_joiner.specs.declared.joined.Joined.{Joined}
use Rattle.late_joiner.specs.declared.joined.Joined.TheVariants.{Taken, Repeat, Before, Late}
use Rattle.late_joiner.specs.Snapshot.{snapshot_of}
use Rattle.late_joiner.specs.Joiner.{JoinerState, accepted_at, opened, joined, joiner_after, world_of_run}

-- ---- the script

-- of the first k lines of a script those that name the mirror, and of the others
abbrev pub lines_before : MatchData → ℕ → ℕ → List ScriptLine
lines_before m number k = filter (names number) (take k m.script)

abbrev pub lines_after : MatchData → ℕ → ℕ → List ScriptLine
lines_after m number k = filter (names number) (drop k m.script)

-- the mirror after the first of them
abbrev pub mirror_before : {W : Type 0} → W → MatchData → ℕ → ℕ → MirrorState W
mirror_before opening m number k =
    after_lines m.commands (lines_before m number k) (opening_mirror opening m number)

-- a mirror after those of script lines that name it, drained
abbrev pub finished_mirror : {W : Type 0} → List Command → ℕ → List ScriptLine → MirrorState W
    → MirrorState W
finished_mirror commands number ls s = drain (after_lines commands (filter (names number) ls) s)

-- the mirror after all of its lines, drained
abbrev pub mirror_end : {W : Type 0} → W → MatchData → ℕ → ℕ → MirrorState W
mirror_end opening m number k =
    finished_mirror m.commands number (drop k m.script) (mirror_before opening m number k)

-- the joiner as it opens: with room for the rest and for the arrivals to come, and for the changes
-- of the plan to come after its own
abbrev pub joiner_of : {W : Type 0} → Rules W → MatchData → MirrorState W → ℕ → ℕ → JoinerState W
joiner_of rules m t number k =
    let snap = snapshot_of rules t in
    opened snap (schedules m)
    (length snap.rest + times (arrives_at number) (drop k m.script))
    (1 + times (restaggers_at number) (drop k m.script))

abbrev pub joiner_before : {W : Type 0} → Rules W → W → MatchData → ℕ → ℕ → JoinerState W
joiner_before rules opening m number k =
    joiner_of rules m (mirror_before opening m number k) number k

-- the joiner after a script line, after several, and drained
abbrev pub joiner_line : {W : Type 0} → List Command → ScriptLine → JoinerState W → JoinerState W
joiner_line commands l s = joiner_after s (events_of commands (length s.inner.runs) l)

unfoldable pub joiner_lines : {W : Type 0} → List Command → List ScriptLine → JoinerState W
    → JoinerState W
joiner_lines commands [] s = s
joiner_lines commands (l ∷ ls) s = joiner_lines commands ls (joiner_line commands l s)

abbrev pub joiner_drained : {W : Type 0} → JoinerState W → JoinerState W
joiner_drained s = record s { inner = drain s.inner }

-- a mirror is the one of this number after the first of its lines
abbrev pub HasBegun : {W : Type 0} → W → MatchData → ℕ → ℕ → MirrorState W → Type 0
HasBegun opening m number k s = s ≡ mirror_before opening m number k

-- a joiner opened from the snapshot of such a mirror while some tick was left
pub record IsOpened {W : Type 0} (rules : Rules W) (m : MatchData) (number k : ℕ)
    (t : MirrorState W) (s : JoinerState W) : Type 0 where
  pub left : last_clock t.runs < m.length
  pub is : s ≡ joiner_of rules m t number k

-- a joiner after those of script lines that name the mirror, drained
abbrev pub finished_joiner : {W : Type 0} → List Command → ℕ → List ScriptLine → JoinerState W
    → JoinerState W
finished_joiner commands number ls s =
    joiner_drained (joiner_lines commands (filter (names number) ls) s)

-- the joiner at the end
abbrev pub joiner_end : {W : Type 0} → Rules W → W → MatchData → ℕ → ℕ → JoinerState W
joiner_end rules opening m number k =
    finished_joiner m.commands number (drop k m.script) (joiner_before rules opening m number k)

-- no tick is left for a joiner
abbrev pub IsTooLate : {W : Type 0} → W → MatchData → ℕ → ℕ → Type 0
IsTooLate opening m number k = last_clock (mirror_before opening m number k).runs ≡ m.length

-- ---- what is printed

-- the head, with the snapshot's clock
unfoldable pub join_head : ℕ → ℕ → ℕ → List ℕ
join_head number k clock = as_line (spaced
    (codes "join" ∷ decimal number ∷ decimal k ∷ codes "clock" ∷ decimal clock ∷ []))

-- what an arrival at the joiner prints; of one that is taken nothing
unfoldable pub joined_text : ℕ → ℕ → Joined → List ℕ
joined_text from number (Taken repaired) = []
joined_text from number Repeat =
    as_line (spaced (codes "repeat" ∷ decimal from ∷ decimal number ∷ []))
joined_text from number (Before time clock) = as_line (spaced
    (codes "before" ∷ decimal from ∷ decimal number ∷ decimal time ∷ decimal clock ∷ []))
joined_text from number (Late bound) =
    as_line (spaced (codes "late" ∷ decimal from ∷ decimal number ∷ decimal bound ∷ []))

-- what a command of the match prints that arrives at the joiner, if there is one
abbrev pub arriving_text : {W : Type 0} → ℕ → ℕ → Option Command → JoinerState W → List ℕ
arriving_text from number None s = []
arriving_text from number (Some x) s = joined_text from number (joined s x)

-- what a script line prints at the joiner as it stands before it: arrivals alone print
unfoldable pub joiner_line_text : {W : Type 0} → List Command → ScriptLine → JoinerState W → List ℕ
joiner_line_text commands (lines.Arrive mirror from number) s =
    arriving_text from number (command_named commands from number) s
joiner_line_text commands (lines.Tick mirror) s = []
joiner_line_text commands (lines.Turn mirror) s = []
joiner_line_text commands (lines.Step mirror copy) s = []
joiner_line_text commands (lines.World mirror copy) s = []
joiner_line_text commands (lines.Run mirror copy) s = []
joiner_line_text commands (lines.Restagger mirror plan) s = []

unfoldable pub joiner_text : {W : Type 0} → List Command → List ScriptLine → JoinerState W → List ℕ
joiner_text commands [] s = []
joiner_text commands (l ∷ ls) s =
    joiner_line_text commands l s ++ joiner_text commands ls (joiner_line commands l s)

-- the joiner's line
unfoldable pub joiner_counts : ℕ → ℕ → ℕ → List ℕ
joiner_counts accepted turned repaired = as_line (spaced (
    codes "joiner" ∷ codes "accepted" ∷ decimal accepted
    ∷ codes "turned" ∷ decimal turned ∷ codes "repairs" ∷ decimal repaired ∷ []))

-- the number of the last copy
abbrev pub last_copy : {W : Type 0} → MirrorState W → ℕ
last_copy s = length s.runs - 1

-- the worlds of the last copies
abbrev pub mirror_world : {W : Type 0} → Rules W → MirrorState W → W
mirror_world rules s = world_of rules s.opening (run_of s (last_copy s))

abbrev pub joiner_world : {W : Type 0} → Rules W → JoinerState W → W
joiner_world rules s = world_of_run rules s (run_of s.inner (last_copy s.inner))

-- the words of the head of the joiner's block
abbrev pub joiner_head : ℕ → List (List ℕ)
joiner_head length = codes "world joiner" ∷ decimal length ∷ []

-- what is told of both at the end of a match of this length, where the two worlds are one or not
unfoldable pub ends_text : {W : Type 0} → Showing W → ℕ → ℕ → MirrorState W → JoinerState W → Bool
    → List ℕ
ends_text show number ticks t s same =
    line_of_mirror number t
    ++ (copy_block show number t.opening (last_copy t) (run_of t (last_copy t))
    ++ (joiner_counts (length (accepted_at s)) (length s.inner.turned) (repairs s.inner)
    ++ (block_text show.lines show.names (joiner_head ticks) (joiner_world show.rules s)
    ++ (same_line same ++ done_line))))

-- the whole text
unfoldable pub join_text : {W : Type 0} → Showing W → W → MatchData → ℕ → ℕ → Bool → List ℕ
join_text show opening m number k same =
    join_head number k (last_clock (mirror_before opening m number k).runs)
    ++ (joiner_text m.commands (lines_after m number k)
    (joiner_before show.rules opening m number k)
    ++ ends_text show number m.length (mirror_end opening m number k)
    (joiner_end show.rules opening m number k) same)

-- the text says exactly whether the two worlds are one
abbrev pub SaysIfSame : {W : Type 0} → Rules W → W → MatchData → ℕ → ℕ → Bool → Type 0
SaysIfSame rules opening m number k same =
    IsTrue same
    ↔ (mirror_world rules (mirror_end opening m number k)
    ≡ joiner_world rules (joiner_end rules opening m number k))

-- the text where no tick is left
unfoldable pub too_late_text : ℕ → ℕ → List ℕ
too_late_text clock length =
    as_line (spaced (codes "too" ∷ codes "late" ∷ decimal clock ∷ decimal length ∷ []))

-- what is told while a mirror and a joiner make script lines, each those that name the mirror, and
-- are drained: what the joiner prints, and how both ended, with whether the two worlds are one
pub record TellsOn {W : Type 0} (show : Showing W) (m : MatchData) (number : ℕ)
    (ls : List ScriptLine) (t : MirrorState W) (s : JoinerState W) (old new : List ℕ) : Type 0 where
  pub same : Bool
  pub decided : IsTrue same
      ↔ (mirror_world show.rules (finished_mirror m.commands number ls t)
      ≡ joiner_world show.rules (finished_joiner m.commands number ls s))
  pub lines : new ≡ old ++ (joiner_text m.commands (filter (names number) ls) s
      ++ ends_text show number m.length (finished_mirror m.commands number ls t)
      (finished_joiner m.commands number ls s) same)

-- a text tells of the mirror and of a joiner, for which some tick was left
pub record TellsOfBoth {W : Type 0} (show : Showing W) (opening : W) (m : MatchData) (number k : ℕ)
    (text : List ℕ) : Type 0 where
  pub left : last_clock (mirror_before opening m number k).runs < m.length
  pub same : Bool
  pub decided : SaysIfSame show.rules opening m number k same
  pub lines : text ≡ join_text show opening m number k same

-- what is told: where no tick is left that it is too late, and else of both
abbrev pub IsTold : {W : Type 0} → Showing W → W → MatchData → ℕ → ℕ → JoinAnswer → Type 0
IsTold show opening m number k (Told text) = TellsOfBoth show opening m number k text
IsTold show opening m number k (TooLate text) =
    IsTooLate opening m number k × (text ≡ too_late_text m.length m.length)
