-- What a race of a match ends at.
use Rattle.std.specs.Prelude.{◌≡◌, ◌∷◌, List, length}
use Rattle.std.specs.List.{AllByRecursion}
use Rattle.game_trait.specs.Game.{Rules}
use Rattle.sync_model.specs.State.{MirrorState}
use Rattle.match_data.specs.Data.{MatchData}
use Rattle.race_hall.specs.Race.{Course}
use Rattle.race_hall.specs.Finish.{EndsAtFold}

-- what of a match matters to a race
abbrev pub course_of : MatchData → Course
course_of m =
    record {
      commands = m.commands;
      mirrors = m.mirrors;
      length = m.length;
      plans = m.delays ∷ m.plans;
      pace = m.pace;
    }

-- one mirror for each number, and each ends at the time-ordered execution of all commands
pub record AreRaced {W : Type 0} (rules : Rules W) (m : MatchData) (opening : W)
    (mirrors : List (MirrorState W)) : Type 0 where
  pub count : length mirrors ≡ m.mirrors
  pub each : AllByRecursion (EndsAtFold rules (course_of m) opening) mirrors
