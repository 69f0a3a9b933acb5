-- A match as contracts see it, and which values are matches.
use Rattle.std.specs.Prelude.{ℕ, ◌≡◌, ◌⊎◌, ◌<◌, ◌≤◌, ◌==◌, Bool, true, false, if◌then◌else◌, List, ◌∷◌, map, length, count_by, bytes_eq}
use Rattle.std.specs.List.{AllByRecursion, IsDistinct}
use Rattle.game_trait.specs.declared.command.Command.{Command}
use Rattle.game_trait.specs.declared.limits.TheConstants.{LONGEST_MATCH, MOST_MIRRORS, MOST_PLANS, MOST_PLAYERS, MOST_PLAYERS_IN_1}
use Rattle.game_trait.specs.declared.limits.TheConstants.{MOST_COMMANDS_IN_1, MOST_COMMANDS_IN_2, MOST_SCRIPT_LINES, MOST_SHOWING_LINES}
use Rattle.game_trait.specs.declared.limits.TheConstants.{GREATEST_NUMBER}
use Rattle.game_trait.specs.CommandList.{has_command}
use Rattle.game_trait.specs.Keys.{NamesDiffer}
use Rattle.match_setup.specs.Setup.{Layout, IsLayout}
use Rattle.game_trait.specs.Acts.{has_act}
use Rattle.sync_model.specs.Schedule.{Schedule, IsSchedule, longest_delay}
use Rattle.match_data.specs.declared.script_line.ScriptLine.{ScriptLine}
use Rattle.match_data.specs.declared.script_line.ScriptLine.TheVariants.{Tick, Turn, Arrive, Step, World, Run, Restagger}
use Rattle.match_data.specs.Names.{is_name}

-- a match: its text's version, its length in ticks, how many mirrors, the delays of their copies and the
-- further plans of delays, the pace, how the world begins, the players' names, the commands in the
-- order of their lines, and the script
pub record MatchData : Type 0 where
  pub version : ℕ
  pub length : ℕ
  pub mirrors : ℕ
  pub delays : List ℕ
  pub plans : List (List ℕ)
  pub pace : ℕ
  pub layout : Layout
  pub names : List (List ℕ)
  pub commands : List Command
  pub script : List ScriptLine

-- the most players of a version
abbrev pub most_players : ℕ → ℕ
most_players version = if version == 1 then MOST_PLAYERS_IN_1 else MOST_PLAYERS

-- the most commands of a version
abbrev pub most_commands : ℕ → ℕ
most_commands version = if version == 1 then MOST_COMMANDS_IN_1 else MOST_COMMANDS_IN_2

-- the schedule of a mirror under these delays
abbrev pub schedule_of : MatchData → List ℕ → Schedule
schedule_of m delays = record { delays = delays; length = m.length }

-- the plans of a match, plan 0 first
abbrev pub all_plans : MatchData → List (List ℕ)
all_plans m = m.delays ∷ m.plans

-- the schedules of these
abbrev pub schedules : MatchData → List Schedule
schedules m = map (schedule_of m) (all_plans m)

-- a command of a match: due within it, of a mirror and a player that are there, with an act of the
-- version
pub record IsCommand (m : MatchData) (x : Command) : Type 0 where
  pub time : x.time < m.length
  pub from : x.from < m.mirrors
  pub number : x.number ≤ GREATEST_NUMBER
  pub player : x.player < length m.names
  pub act : has_act m.version x.act ≡ true

-- a script line of a match: of a mirror, a copy, a plan or a command that is there
abbrev pub IsScriptLine : MatchData → ScriptLine → Type 0
IsScriptLine m (Tick mirror) = mirror < m.mirrors
IsScriptLine m (Turn mirror) = mirror < m.mirrors
IsScriptLine m (Arrive mirror from number) =
    (mirror < m.mirrors) × (from < m.mirrors) × (number ≤ GREATEST_NUMBER)
    × (has_command m.commands from number ≡ true)
IsScriptLine m (Step mirror copy) = (mirror < m.mirrors) × (copy < length m.delays)
IsScriptLine m (World mirror copy) = (mirror < m.mirrors) × (copy < length m.delays)
IsScriptLine m (Run mirror copy) = (mirror < m.mirrors) × (copy < length m.delays)
IsScriptLine m (Restagger mirror plan) = (mirror < m.mirrors) × (plan ≤ length m.plans)

-- a script line that prints a world or a run
abbrev pub shows : ScriptLine → Bool
shows (World mirror copy) = true
shows (Run mirror copy) = true
shows (Tick mirror) = false
shows (Turn mirror) = false
shows (Arrive mirror from number) = false
shows (Step mirror copy) = false
shows (Restagger mirror plan) = false

-- a match that a text can give
pub record IsMatch (m : MatchData) : Type 0 where
  pub version : (m.version ≡ 1) ⊎ (m.version ≡ 2)
  pub ticks : (1 ≤ m.length) × (m.length ≤ LONGEST_MATCH)
  pub mirrors : (1 ≤ m.mirrors) × (m.mirrors ≤ MOST_MIRRORS)
  pub delays : IsSchedule (schedule_of m m.delays)
  pub plan_count : length m.plans < MOST_PLANS
  pub plans : AllByRecursion
      (λ p. IsSchedule (schedule_of m p) × (length p ≡ length m.delays)) m.plans
  pub pace : m.pace ≤ longest_delay m.delays
  pub layout : IsLayout m.layout
  pub player_count : length m.names ≤ most_players m.version
  pub players : length m.names ≡ length m.layout.players
  pub names : AllByRecursion (λ n. is_name n ≡ true) m.names
  pub named_apart : IsDistinct bytes_eq m.names
  pub command_count : length m.commands ≤ most_commands m.version
  pub commands : AllByRecursion (IsCommand m) m.commands
  pub commands_differ : NamesDiffer m.commands
  pub script_count : length m.script ≤ MOST_SCRIPT_LINES
  pub script : AllByRecursion (IsScriptLine m) m.script
  pub shown : count_by shows m.script ≤ MOST_SHOWING_LINES

-- the same match with version 2
abbrev pub lifted : MatchData → MatchData
lifted m = record m { version = 2 }
