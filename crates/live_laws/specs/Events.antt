-- The events of a live mirror's log, as an audit takes them.
use Rattle.std.specs.Prelude.{List, Contains}
use Rattle.game_trait.specs.declared.command.Command.{Command}
use Rattle.game_trait.specs.declared.event.Event.{Event}
use Rattle.game_trait.specs.declared.event.Event.TheVariants as events
use Rattle.sync_model.specs.State.{MirrorState, opening_state}
use Rattle.match_data.specs.Data.{MatchData, all_plans}

-- where the event is an arrival, its command is one of these
abbrev pub IsAmong : List Command → Event → Type 0
IsAmong commands events.Tick = Unit {0}
IsAmong commands (events.Arrive x) = Contains commands x
IsAmong commands (events.Step copy) = Unit {0}
IsAmong commands (events.Restagger plan) = Unit {0}

-- a mirror of the match before any event, as an audit begins with it: room decides nothing
abbrev pub audited_from : {W : Type 0} → W → MatchData → MirrorState W
audited_from opening m = opening_state opening m.length (all_plans m) 0 0
