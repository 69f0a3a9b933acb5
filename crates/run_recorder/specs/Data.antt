-- Which values are records.
use Rattle.std.specs.Prelude.{◌≡◌, ℕ, ◌+◌, ◌^◌, ◌<◌, ◌≤◌, true, false, List, [], ◌∷◌, ◌++◌, length, Some}
use Rattle.std.specs.List.{AllByRecursion}
use Rattle.game_trait.specs.declared.event.Event.{Event}
use Rattle.game_trait.specs.declared.event.Event.TheVariants.{Tick, Arrive, Step, Restagger}
use Rattle.game_trait.specs.declared.limits.TheConstants.{LONGEST_RECORD_TEXT, MOST_LOGGED_EVENTS}
use Rattle.game_trait.specs.CommandList.{command_named}
use Rattle.tss_io.specs.Kinds.{is_long}
use Rattle.tss_io.specs.Lines.{as_line, lines_text}
use Rattle.match_data.specs.Data.{MatchData, IsMatch}
use Rattle.match_data.specs.declared.log.MirrorLog.{MirrorLog}
use Rattle.run_recorder.specs.declared.race_record.RaceRecord.{RaceRecord}
use Rattle.run_recorder.specs.Text.{is_block_line, world_line, record_text}

-- each of the items is right by its number, the first of which is this
unfoldable pub EachNumbered : {A : Type 0} → (ℕ → A → Type 0) → ℕ → List A → Type 0
EachNumbered Is n [] = Unit {0}
EachNumbered Is n (a ∷ more) = Is n a × EachNumbered Is (n + 1) more

-- an event of a match: it names a command, a copy or a plan that is there
abbrev pub IsEventOf : MatchData → Event → Type 0
IsEventOf m Tick = Unit {0}
IsEventOf m (Arrive x) = command_named m.commands x.from x.number ≡ Some x
IsEventOf m (Step copy) = copy < length m.delays
IsEventOf m (Restagger plan) = plan ≤ length m.plans

-- a log of this mirror: it has no more events than a log may have, each of the match
pub record IsLogOf (m : MatchData) (number : ℕ) (log : MirrorLog) : Type 0 where
  pub mirror : log.mirror ≡ number
  pub few : length log.events ≤ MOST_LOGGED_EVENTS
  pub events : AllByRecursion (IsEventOf m) log.events

-- a line that may stand in a block
abbrev pub IsBlockLine : List ℕ → Type 0
IsBlockLine l = (is_block_line l ≡ true) × (is_long l ≡ false)

-- a block of this copy: its head with any time below 2 ^ 32, and lines of a block
pub record IsBlock (mirror copy : ℕ) (block : List ℕ) : Type 0 where
  pub time : ℕ
  pub lines : List (List ℕ)
  pub in_range : time < 2 ^ 32
  pub each : AllByRecursion IsBlockLine lines
  pub whole : block ≡ as_line (world_line mirror copy time) ++ lines_text lines

-- the worlds of a mirror: a block for each copy, copy 0 first
abbrev pub AreWorldsOf : MatchData → ℕ → List (List ℕ) → Type 0
AreWorldsOf m mirror blocks =
    (length blocks ≡ length m.delays) × EachNumbered (IsBlock mirror) 0 blocks

-- a record that a text can give: a match, the log of each mirror and the worlds of each, mirror 0
-- first, with a text within the limit
pub record IsRecord (r : RaceRecord) : Type 0 where
  pub game : IsMatch r.game
  pub log_count : length r.logs ≡ r.game.mirrors
  pub logs : EachNumbered (IsLogOf r.game) 0 r.logs
  pub world_count : length r.worlds ≡ r.game.mirrors
  pub worlds : EachNumbered (AreWorldsOf r.game) 0 r.worlds
  pub short : length (record_text r) ≤ LONGEST_RECORD_TEXT
