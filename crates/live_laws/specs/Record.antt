-- The record that is put together of what live mirrors tell at their ends.
use Rattle.std.specs.Prelude.{◌≡◌, ℕ, ◌+◌, ◌≤◌, List, [], ◌∷◌, ◌++◌, length, map}
use Rattle.std.specs.List.{AllByRecursion}
use Rattle.game_trait.specs.declared.command.Command.{Command}
use Rattle.game_trait.specs.declared.command.Item.{Item}
use Rattle.game_trait.specs.Keys.{NamesDiffer}
use Rattle.tss_io.specs.Lines.{as_line}
use Rattle.match_setup.specs.Setup.{Layout}
use Rattle.match_data.specs.Data.{MatchData, IsCommand, most_commands}
use Rattle.match_file.specs.Text.{match_text}
use Rattle.report_text.specs.Worlds.{Showing, copy_block}
use Rattle.match_data.specs.declared.log.MirrorLog.{MirrorLog}
use Rattle.run_recorder.specs.declared.race_record.RaceRecord.{RaceRecord}
use Rattle.run_recorder.specs.Text.{record_head, last_line}
use Rattle.live_text.specs.declared.request.Request.{Request}
use Rattle.live_text.specs.declared.request.Request.TheVariants.{End}
use Rattle.live_mirror.specs.Events.{after_requests, FitAlong}
use Rattle.live_laws.specs.Events.{IsAmong}
use Rattle.live_mirror.specs.Session.{SessionState, opening_session}
use Rattle.live_mirror.specs.Told.{record_part}

-- a match of the same setup with these commands and no script
abbrev pub with_commands : MatchData → List Command → MatchData
with_commands m commands = record m { commands = commands; script = [] }

-- these may be a match's commands: no two have one name, there are no more than a match may have,
-- and each is one of the match
pub record MayBeCommands (m : MatchData) (commands : List Command) : Type 0 where
  pub differ : NamesDiffer commands
  pub few : length commands ≤ most_commands m.version
  pub each : AllByRecursion (IsCommand m) commands

-- the mirror of this number, behind the `end` of the requests that it was asked; each of them could be
-- done when it was asked, and the commands that arrived are among these
pub record IsEnd {W : Type 0} (opening : W) (m : MatchData) (commands : List Command)
    (number : ℕ) (s : SessionState W) : Type 0 where
  pub asked : List Request
  pub fit : FitAlong (opening_session opening m number) (asked ++ End ∷ [])
  pub ended : s ≡ after_requests (opening_session opening m number) (asked ++ End ∷ [])
  pub among : AllByRecursion (IsAmong commands) s.mirror.history

-- mirrors behind their ends, of which the first has this number
unfoldable pub AreEnds : {W : Type 0} → W → MatchData → List Command → ℕ → List (SessionState W)
    → Type 0
AreEnds opening m commands n [] = Unit {0}
AreEnds opening m commands n (s ∷ ss) =
    IsEnd opening m commands n s × AreEnds opening m commands (n + 1) ss

-- the mirrors of a match behind their ends, one for each number from 0 on
abbrev pub AreAllEnds : {W : Type 0} → (Layout → W) → MatchData → List Command
    → List (SessionState W) → Type 0
AreAllEnds opening m commands ends =
    (length ends ≡ m.mirrors) × AreEnds (opening m.layout) m commands 0 ends

-- the blocks of a mirror's copies, of which the first has this number, each by itself
unfoldable pub each_block : {W : Type 0} → Showing W → ℕ → W → ℕ → List (List Item)
    → List (List ℕ)
each_block show number opening copy [] = []
each_block show number opening copy (run ∷ behind) =
    copy_block show number opening copy run ∷ each_block show number opening (copy + 1) behind

-- the log of a mirror, and its blocks
abbrev pub log_of : {W : Type 0} → SessionState W → MirrorLog
log_of s = record { mirror = s.number; events = s.mirror.history }

abbrev pub worlds_of : {W : Type 0} → Showing W → SessionState W → List (List ℕ)
worlds_of show s = each_block show s.number s.mirror.opening 0 s.mirror.runs

-- the record of a match whose mirrors stand so behind their ends
abbrev pub record_of : {W : Type 0} → Showing W → MatchData → List (SessionState W) → RaceRecord
record_of show m ends =
    record { game = m; logs = map log_of ends; worlds = map (worlds_of show) ends }

-- what mirrors told at their ends, each from its log on
unfoldable pub told_at_ends : {W : Type 0} → Showing W → List (SessionState W) → List ℕ
told_at_ends show [] = []
told_at_ends show (s ∷ ss) = record_part show s.number s.mirror ++ told_at_ends show ss

-- the text that is put together: the head of a record, the match, what the mirrors told, and `done`
abbrev pub put_together : {W : Type 0} → Showing W → MatchData → List (SessionState W) → List ℕ
put_together show m ends =
    as_line record_head ++ (match_text m ++ (told_at_ends show ends ++ as_line last_line))
