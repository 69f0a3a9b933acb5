-- The events that requests make at a mirror.
use Rattle.std.specs.Prelude.{◌≡◌, ℕ, List, [], ◌∷◌, ◌++◌, if◌then◌else◌, length}
use Rattle.game_trait.specs.declared.event.Event.{Event}
use Rattle.game_trait.specs.declared.event.Event.TheVariants as events
use Rattle.sync_model.specs.Change.{after}
use Rattle.sync_model.specs.History.{changing}
use Rattle.sync_model.specs.Turns.{turn_events, turns_of, drain}
use Rattle.match_data.specs.Data.{MatchData, IsCommand}
use Rattle.live_text.specs.declared.request.Request.{Request}
use Rattle.live_text.specs.declared.request.Request.TheVariants.{Own, Cmd, Tick, Turn, Step, Restagger, World, Run, Commands, End}
use Rattle.live_text.specs.Requests.{FitsTerms}
use Rattle.live_mirror.specs.Session.{SessionState, terms_of, is_past, own_command, after_request}

-- the events that a request makes, in order: `end` makes those of as many turns as drain the mirror
abbrev pub Makes : {W : Type 0} → SessionState W → Request → List Event → Type 0
Makes s (Own player act) es =
    es ≡ (if is_past s then [] else events.Arrive (own_command s player act) ∷ [])
Makes s (Cmd x) es = es ≡ events.Arrive x ∷ []
Makes s Tick es = es ≡ events.Tick ∷ []
Makes s Turn es = es ≡ turn_events (length s.mirror.runs)
Makes s (Step copy) es = es ≡ events.Step copy ∷ []
Makes s (Restagger plan) es = es ≡ events.Restagger plan ∷ []
Makes s (World copy) es = es ≡ []
Makes s (Run copy) es = es ≡ []
Makes s Commands es = es ≡ []
Makes s End es =
    (turns : ℕ) × (es ≡ turns_of (length s.mirror.runs) turns) × (after s.mirror es ≡ drain s.mirror)

-- a request at a mirror is these events: it makes them, they lead to the mirror behind it, and its
-- history has behind what it had before those that changed the state in which they stood
pub record IsMade {W : Type 0} (s : SessionState W) (r : Request) (es : List Event) :
    Type 0 where
  pub makes : Makes s r es
  pub leads : after s.mirror es ≡ (after_request s r).mirror
  pub history : (after_request s r).mirror.history ≡ s.mirror.history ++ changing s.mirror es

-- the session after requests
unfoldable pub after_requests : {W : Type 0} → SessionState W → List Request → SessionState W
after_requests s [] = s
after_requests s (r ∷ rs) = after_requests (after_request s r) rs

-- each of the requests can be done when it is asked
unfoldable pub FitAlong : {W : Type 0} → SessionState W → List Request → Type 0
FitAlong s [] = Unit {0}
FitAlong s (r ∷ rs) = FitsTerms (terms_of s) r × FitAlong (after_request s r) rs

-- events that requests make one after another
unfoldable pub AreMade : {W : Type 0} → SessionState W → List Request → List Event → Type 0
AreMade s [] es = es ≡ []
AreMade s (r ∷ rs) es =
    (now : List Event) × (later : List Event) × (es ≡ now ++ later) × Makes s r now
    × AreMade (after_request s r) rs later

-- where the event is an arrival, its command is one of the match
abbrev pub IsOfMatch : MatchData → Event → Type 0
IsOfMatch m events.Tick = Unit {0}
IsOfMatch m (events.Arrive x) = IsCommand m x
IsOfMatch m (events.Step copy) = Unit {0}
IsOfMatch m (events.Restagger plan) = Unit {0}
