-- Where a live mirror stands behind its head, whatever it was told.
use Rattle.std.specs.List.{AllByRecursion}
use Rattle.std.specs.Prelude.{◌≡◌, ℕ, ◌<◌, List}
use Rattle.match_setup.specs.Setup.{Layout}
use Rattle.match_data.specs.Data.{MatchData, IsMatch, all_plans}
use Rattle.live_text.specs.declared.request.Request.{Request}
use Rattle.live_mirror.specs.Events.{after_requests, FitAlong, IsOfMatch}
use Rattle.live_mirror.specs.Session.{SessionState, opening_session}

-- the mirror of this number of a match, as it begins
abbrev pub begun : {W : Type 0} → (Layout → W) → MatchData → ℕ → SessionState W
begun opening m number = opening_session (opening m.layout) m number

-- a mirror of this number stands where requests led one of a match, each of which could be done when
-- it was asked, and what arrived is of the match
pub record IsLed {W : Type 0} (opening : Layout → W) (number : ℕ) (s : SessionState W) : Type 0 where
  pub game : MatchData
  pub is_match : IsMatch game
  pub there : number < game.mirrors
  pub asked : List Request
  pub fit : FitAlong (begun opening game number) asked
  pub led : s ≡ after_requests (begun opening game number) asked
  pub arrived : AllByRecursion (IsOfMatch game) s.mirror.history

-- a mirror is one of this setup: what a match says but for its commands, its script and its pace
pub record IsOfSetup {W : Type 0} (start : Layout → W) (m : MatchData) (s : SessionState W) : Type 0 where
  pub version : s.version ≡ m.version
  pub mirrors : s.mirrors ≡ m.mirrors
  pub names : s.names ≡ m.names
  pub opening : s.mirror.opening ≡ start m.layout
  pub length : s.mirror.length ≡ m.length
  pub plans : s.mirror.plans ≡ all_plans m
