-- The record of a race: the match, the mirrors' logs, and the worlds of their copies.
use Rattle.std.specs.Prelude.{◌≡◌, ℕ, ◌+◌, ◌≤◌, List, [], ◌∷◌, length}
use Rattle.std.specs.List.{AllByRecursion}
use Rattle.game_trait.specs.declared.command.Item.{Item}
use Rattle.game_trait.specs.declared.limits.TheConstants.{LONGEST_RECORD_TEXT}
use Rattle.game_trait.specs.Ordered.{time_ordered}
use Rattle.tss_io.specs.Lines.{lines_text}
use Rattle.sync_model.specs.State.{MirrorState}
use Rattle.match_data.specs.Data.{MatchData}
use Rattle.match_hall.specs.Report.{Showing, copy_block}
use Rattle.match_hall.specs.Script.{logs_from}
use Rattle.match_data.specs.declared.log.MirrorLog.{MirrorLog}
use Rattle.run_recorder.specs.declared.race_record.RaceRecord.{RaceRecord}
pub use Rattle.run_auditor.specs.Arena.{arena_shown}
use Rattle.run_recorder.specs.Data.{IsBlockLine}
use Rattle.run_recorder.specs.Text.{record_text}
use Rattle.race_hall.specs.Raced.{AreRaced}

-- the blocks of a mirror's copies, of which the first has this number
unfoldable pub blocks_from : {W : Type 0} → Showing W → ℕ → W → ℕ → List (List Item) → List (List ℕ)
blocks_from show number opening copy [] = []
blocks_from show number opening copy (run ∷ behind) =
    copy_block show number opening copy run ∷ blocks_from show number opening (copy + 1) behind

-- the blocks of mirrors, of which the first has this number
unfoldable pub worlds_from : {W : Type 0} → Showing W → ℕ → List (MirrorState W)
    → List (List (List ℕ))
worlds_from show number [] = []
worlds_from show number (s ∷ ss) =
    blocks_from show number s.opening 0 s.runs ∷ worlds_from show (number + 1) ss

-- the record of a match whose mirrors ended so
abbrev pub record_of : {W : Type 0} → Showing W → MatchData → List (MirrorState W) → RaceRecord
record_of show m mirrors =
    record { game = m; logs = logs_from 0 mirrors; worlds = worlds_from show 0 mirrors }

-- a text of lines that may stand in a block
abbrev pub AreBlockLines : List ℕ → Type 0
AreBlockLines text =
    (lines : List (List ℕ)) × AllByRecursion IsBlockLine lines × (text ≡ lines_text lines)

-- a race keeps within a record's text: the world at which all copies end is shown by lines of a
-- block, and the text is no longer than one may be
pub record FitsText {W : Type 0} (show : Showing W) (opening : W) (m : MatchData)
    (mirrors : List (MirrorState W)) : Type 0 where
  pub lines : AreBlockLines (
      show.lines (time_ordered show.rules opening m.commands m.length) show.names)
  pub short : length (record_text (record_of show m mirrors)) ≤ LONGEST_RECORD_TEXT

-- a text is the record of a race of this match whose mirrors ended so, and the logs are theirs:
-- each mirror has every command once and turned none away, its log is legal, and its copies' worlds
-- are the time-ordered execution of all commands
pub record IsRecordOfRace {W : Type 0} (show : Showing W) (opening : W) (m : MatchData)
    (mirrors : List (MirrorState W)) (text : List ℕ) (kept : List MirrorLog) : Type 0 where
  pub raced : AreRaced show.rules m opening mirrors
  pub text_is : text ≡ record_text (record_of show m mirrors)
  pub kept_is : kept ≡ logs_from 0 mirrors
