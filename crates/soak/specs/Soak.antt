-- Where playing the match of a number leads, at each of its mirrors.
use Rattle.std.specs.Prelude.{◌≡◌, ℕ, ◌+◌, ◌/◌, ◌==◌, if◌then◌else◌, List, [], ◌∷◌, ◌++◌, length, map}
use Rattle.std.specs.List.{AllByRecursion}
use Rattle.game_trait.specs.declared.command.Command.{Command}
use Rattle.game_trait.specs.declared.event.Event.{Event}
use Rattle.game_trait.specs.declared.event.Event.TheVariants.{Arrive}
use Rattle.game_trait.specs.Game.{Rules}
use Rattle.game_trait.specs.Run.{world_of}
use Rattle.game_trait.specs.Ordered.{time_ordered}
use Rattle.sync_model.specs.State.{MirrorState}
use Rattle.sync_model.specs.Turns.{IsDrained, turn_events}
use Rattle.match_maker.specs.Below.{joined_below, each_below}
use Rattle.match_maker.specs.Generator.{command_at, lag}

-- command j, if it arrives at a mirror in this tick of the script
unfoldable pub arriving : ℕ → ℕ → ℕ → ℕ → List Command
arriving seed mirror tick j =
    if j / 8 + lag seed j mirror == tick then command_at seed j ∷ [] else []

-- the commands that arrive at a mirror in a tick
abbrev pub fed_in : ℕ → ℕ → ℕ → List Command
fed_in seed mirror tick = joined_below (arriving seed mirror tick) 4096

-- and in a number of ticks
abbrev pub fed_until : ℕ → ℕ → ℕ → List Command
fed_until seed mirror ticks = joined_below (fed_in seed mirror) ticks

-- the events of a tick of the script at a mirror: the arrivals, and then a turn
abbrev pub events_in : ℕ → ℕ → ℕ → List Event
events_in seed mirror tick = map Arrive (fed_in seed mirror tick) ++ turn_events 5

-- the events of a number of ticks
abbrev pub events_until : ℕ → ℕ → ℕ → List Event
events_until seed mirror ticks = joined_below (events_in seed mirror) ticks

-- all commands
abbrev pub all_commands : ℕ → List Command
all_commands seed = each_below (command_at seed) 4096

-- a mirror at the end of the match of a number that opened so: it accepted every command and turned
-- none away, it is drained, and the world of each of its copies is the time-ordered execution of
-- all commands
pub record IsSoaked {W : Type 0} (rules : Rules W) (opening : W) (seed : ℕ)
    (end : MirrorState W) : Type 0 where
  pub opened : end.opening ≡ opening
  pub accepted : length end.accepted ≡ 4096
  pub turned : end.turned ≡ []
  pub drained : IsDrained end
  pub worlds : AllByRecursion
      (λ run. world_of rules opening run
      ≡ time_ordered rules opening (all_commands seed) 512) end.runs
