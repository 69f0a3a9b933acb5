-- Talks with live mirrors of one setup, each up to its `end`.
use Rattle.std.specs.Prelude.{◌≡◌, ◌⊎◌, ℕ, ◌+◌, ◌≤◌, true, List, [], ◌∷◌, length, map, Contains}
use Rattle.std.specs.List.{AllByRecursion}
use Rattle.game_trait.specs.declared.command.Command.{Command}
use Rattle.game_trait.specs.declared.event.Event.TheVariants as events
use Rattle.game_trait.specs.Keys.{NamesDiffer}
use Rattle.match_data.specs.Data.{MatchData, most_commands}
use Rattle.live_laws.specs.Events.{IsAmong}
use Rattle.live_mirror.specs.Led.{IsOfSetup}
use Rattle.live_mirror.specs.Session.{SessionState}
use Rattle.live_mirror.specs.Way.{live_heard}
use Rattle.live_talk.specs.Head.{asking}
use Rattle.live_talk.specs.Staging.{Staging}

-- all that a live mirror was told, and how it stands behind its `end`
pub record EndedTalk (W : Type 0) : Type 0 where
  pub bytes : List ℕ
  pub state : SessionState W

-- it was told so as the mirror of this number, and it is one of this setup
pub record IsTalkOf {W : Type 0} (g : Staging W) (m : MatchData) (number : ℕ) (t : EndedTalk W) :
    Type 0 where
  pub line : ℕ
  pub heard : (live_heard g number t.bytes).state.place
      ≡ asking (record { session = t.state; line = line; is_over = true })
  pub setup : IsOfSetup g.opening m t.state

-- a talk with each mirror, of which the first has this number
unfoldable pub AreTalksOf : {W : Type 0} → Staging W → MatchData → ℕ → List (EndedTalk W) → Type 0
AreTalksOf g m n [] = Unit {0}
AreTalksOf g m n (t ∷ ts) = IsTalkOf g m n t × AreTalksOf g m (n + 1) ts

-- the command arrived at one of the mirrors: it was taken there, or turned away
unfoldable pub ArrivedAtOne : {W : Type 0} → List (EndedTalk W) → Command → Type 0
ArrivedAtOne [] x = ⊥
ArrivedAtOne (t ∷ ts) x = Contains t.state.mirror.history (events.Arrive x) ⊎ ArrivedAtOne ts x

-- these are just the commands that arrived; no two have one name, and they are no more than a match
-- may have
pub record AreTheCommands {W : Type 0} (m : MatchData) (commands : List Command)
    (talks : List (EndedTalk W)) : Type 0 where
  pub differ : NamesDiffer commands
  pub few : length commands ≤ most_commands m.version
  pub all : AllByRecursion
      (λ t. AllByRecursion (IsAmong commands) t.state.mirror.history) talks
  pub only : AllByRecursion (ArrivedAtOne talks) commands

-- a talk with each mirror of the match, and just the commands that arrived
pub record AreAllTalks {W : Type 0} (g : Staging W) (m : MatchData) (commands : List Command)
    (talks : List (EndedTalk W)) : Type 0 where
  pub count : length talks ≡ m.mirrors
  pub each : AreTalksOf g m 0 talks
  pub arrived : AreTheCommands m commands talks

-- how the mirrors stand
abbrev pub states_of : {W : Type 0} → List (EndedTalk W) → List (SessionState W)
states_of talks = map (λ t. t.state) talks

-- each of these commands arrived at the mirror, its own or as others told it, and none too late
pub record HasThemAll {W : Type 0} (commands : List Command) (t : EndedTalk W) : Type 0 where
  pub arrived : AllByRecursion (λ x. Contains t.state.mirror.history (events.Arrive x)) commands
  pub none_late : t.state.mirror.turned ≡ []
