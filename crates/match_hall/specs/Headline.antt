-- What playing a match promises of each mirror: the headline.
use Rattle.std.specs.Prelude.{◌≡◌, ◌<◌, ◌+◌, ◌↔◌, ℕ, false, List, [], ◌∷◌, take}
use Rattle.std.specs.List.{AllByRecursion}
use Rattle.game_trait.specs.declared.command.Command.{Command}
use Rattle.game_trait.specs.declared.event.Event.{Event}
use Rattle.game_trait.specs.declared.event.Event.TheVariants.{Arrive}
use Rattle.game_trait.specs.declared.event.Reply.TheVariants.{Arrive as ToArrive}
use Rattle.game_trait.specs.declared.event.Arrived.TheVariants.{Late}
use Rattle.game_trait.specs.Game.{Rules}
use Rattle.game_trait.specs.Run.{world_of}
use Rattle.game_trait.specs.Ordered.{time_ordered}
use Rattle.sync_model.specs.State.{MirrorState, last_clock}
use Rattle.sync_model.specs.Change.{said, after, is_repeat}
use Rattle.sync_model.specs.Staggered.{IsStaggered}
use Rattle.sync_model.specs.Turns.{IsDrained}
use Rattle.sync_model.specs.Legal.{IsLegal}
use Rattle.match_data.specs.Data.{MatchData}
use Rattle.match_data.specs.declared.log.MirrorLog.{MirrorLog}
use Rattle.match_hall.specs.Script.{opening_mirror}

-- a mirror of a match was played from its opening state `start` to `end`: what its log says of it
pub record IsPlayed {W : Type 0} (rules : Rules W) (m : MatchData) (start end : MirrorState W)
    (log : List Event) : Type 0 where
  -- the log is what the script's events and then draining's changed
  pub all : log ≡ end.history
  -- it is legal
  pub legal : IsLegal m.commands start log
  -- after each front of it the mirror is staggered
  pub staggered : (n : ℕ) → IsStaggered (after start (take n log))
  -- after each front of it a command would be answered Late exactly where it is new and older than
  -- the last copy's clock, which is the bound that is told
  pub late : (n : ℕ) (x : Command) (bound : ℕ) → let s = after start (take n log) in
      (said s (Arrive x) ≡ ToArrive (Late bound))
      ↔ ((is_repeat s x ≡ false) × (x.time < last_clock s.runs) × (bound ≡ last_clock s.runs))
  -- it leads to the mirror that is shown, which is drained
  pub leads : after start log ≡ end
  pub drained : IsDrained end
  -- each copy's world is the time-ordered execution of what was accepted
  pub worlds : AllByRecursion
      (λ run. world_of rules start.opening run
      ≡ time_ordered rules start.opening end.accepted m.length) end.runs

-- each of the logs is that of the mirror in its place, which was played; the first has this number
unfoldable pub AllPlayed : {W : Type 0} → Rules W → W → MatchData → ℕ → List (MirrorState W)
    → List MirrorLog → Type 0
AllPlayed rules opening m number [] [] = Unit {0}
AllPlayed rules opening m number (end ∷ ends) (log ∷ logs) =
    (log.mirror ≡ number)
    × IsPlayed rules m (opening_mirror opening m number) end log.events
    × AllPlayed rules opening m (number + 1) ends logs
AllPlayed rules opening m number ends logs = ⊥
