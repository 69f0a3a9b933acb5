-- How much a mirror takes in at most.
use Rattle.std.specs.Prelude.{◌≡◌, ◌<◌, ◌≤◌, length}
use Rattle.game_trait.specs.declared.limits.TheConstants.{MOST_SCRIPT_LINES}
use Rattle.sync_model.specs.State.{MirrorState}

-- a mirror began with this world, has some copy, and neither took nor turned away more commands
-- than a script has lines
pub record IsFew {W : Type 0} (opening : W) (s : MirrorState W) : Type 0 where
  pub opened : s.opening ≡ opening
  pub some_copy : 0 < length s.runs
  pub accepted : length s.accepted ≤ MOST_SCRIPT_LINES
  pub turned : length s.turned ≤ MOST_SCRIPT_LINES
