-- Legal histories: logs that tell of a mirror and of nothing else.
use Rattle.std.specs.Prelude.{◌≡◌, ℕ, ◌<◌, List, length, take, Contains}
use Rattle.std.specs.List.{AllByRecursion}
use Rattle.game_trait.specs.declared.command.Command.{Command}
use Rattle.game_trait.specs.declared.event.Event.{Event}
use Rattle.game_trait.specs.declared.event.Event.TheVariants.{Tick, Arrive, Step, Restagger}
use Rattle.sync_model.specs.State.{MirrorState}
use Rattle.sync_model.specs.Change.{after}
use Rattle.sync_model.specs.Staggered.{IsStaggered}
use Rattle.sync_model.specs.History.{EachChanges}

-- an event names what is there: a command of the match, a copy of the mirror, a plan
abbrev pub NamesWhatIsThere : {W : Type 0} → List Command → MirrorState W → Event → Type 0
NamesWhatIsThere commands s Tick = Unit {0}
NamesWhatIsThere commands s (Arrive x) = Contains commands x
NamesWhatIsThere commands s (Step c) = c < length s.runs
NamesWhatIsThere commands s (Restagger p) = p < length s.plans

-- a legal history of a match with these commands: each event changes the state in which it stands,
-- and each names what is there
pub record IsLegal {W : Type 0} (commands : List Command) (s : MirrorState W)
    (log : List Event) : Type 0 where
  pub changes : EachChanges s log
  pub there : AllByRecursion (NamesWhatIsThere commands s) log

-- a log of a mirror from a start on: it is legal, the mirror is staggered after each front of it,
-- and it leads to the state
pub record IsLog {W : Type 0} (commands : List Command) (start s : MirrorState W)
    (log : List Event) : Type 0 where
  pub legal : IsLegal commands start log
  pub staggered : (n : ℕ) → IsStaggered (after start (take n log))
  pub leads : after start log ≡ s
