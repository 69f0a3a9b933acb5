-- When a script line may be made at a joiner.
use Rattle.std.specs.Prelude.{◌≡◌, ◌⊎◌, ℕ, ◌≤◌, if◌then◌else◌, List, ◌++◌, filter, length}
use Rattle.std.specs.List.{AllByRecursion}
use Rattle.game_trait.specs.Count.{times}
use Rattle.game_trait.specs.declared.limits.TheConstants.{MOST_SCRIPT_LINES}
use Rattle.match_data.specs.Data.{MatchData, IsMatch, IsScriptLine, all_plans}
use Rattle.match_data.specs.declared.script_line.ScriptLine.{ScriptLine}
use Rattle.match_hall.specs.Script.{mirror_of, names, arrives_at, restaggers_at, after_lines, opening_mirror}
use Rattle.sync_model.specs.State.{MirrorState}
use Rattle.late_joiner.specs.declared.joined.JoinFault.{JoinFault}
use Rattle.late_joiner.specs.declared.joined.JoinFault.TheVariants.{NoMemory, TooLate}
use Rattle.late_joiner.specs.Joiner.{JoinerState, full_length}

-- a joiner of the match
pub record IsJoinerOf {W : Type 0} (m : MatchData) (s : JoinerState W) : Type 0 where
  pub ticks : full_length s ≡ m.length
  pub copies : length s.inner.runs ≡ length m.delays
  pub plans : s.inner.plans ≡ all_plans m

-- it has room for a script line
pub record HasRoomFor {W : Type 0} (l : ScriptLine) (s : JoinerState W) : Type 0 where
  pub arrivals : (if arrives_at (mirror_of l) l then 1 else 0) ≤ s.inner.spare
  pub changes : (if restaggers_at (mirror_of l) l then 1 else 0) ≤ s.inner.plan_spare

-- it is one of the match, and has room for the lines that name this mirror
pub record IsReady {W : Type 0} (m : MatchData) (number : ℕ) (ls : List ScriptLine)
    (s : JoinerState W) : Type 0 where
  pub sound : IsMatch m
  pub lines : AllByRecursion (IsScriptLine m) ls
  pub joiner : IsJoinerOf m s
  pub arrivals : times (arrives_at number) ls ≤ s.inner.spare
  pub changes : times (restaggers_at number) ls ≤ s.inner.plan_spare

-- a mirror of this number has made its lines in front of these in the match's script, and no other
pub record IsAlong {W : Type 0} (m : MatchData) (number : ℕ) (ls : List ScriptLine)
    (s : MirrorState W) : Type 0 where
  pub opening : W
  pub before : List ScriptLine
  pub behind : List ScriptLine
  pub script : m.script ≡ before ++ (ls ++ behind)
  pub reached : s ≡ after_lines m.commands (filter (names number) before)
      (opening_mirror opening m number)

-- a mirror is one of the match, and took no more commands than a script has lines
pub record IsOfMatch {W : Type 0} (m : MatchData) (s : MirrorState W) : Type 0 where
  pub ticks : s.length ≡ m.length
  pub plans : s.plans ≡ all_plans m
  pub few : length s.accepted ≤ MOST_SCRIPT_LINES

-- why no joiner was opened at this clock in a match of this length: memory ran out, or no tick was
-- left
abbrev pub IsFaultAt : ℕ → ℕ → JoinFault → Type 0
IsFaultAt ticks clock e =
    (e ≡ NoMemory) ⊎ ((e ≡ TooLate ticks ticks) × (clock ≡ ticks))
