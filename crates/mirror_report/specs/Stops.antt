-- Where a draining stops for want of memory. The mirror is the state after its own history even so.
use Rattle.std.specs.Prelude.{◌≡◌, ◌<◌, ℕ, ◌+◌, List, ◌++◌}
use Rattle.sync_model.specs.State.{MirrorState}
use Rattle.sync_model.specs.Turns.{drain_within}
use Rattle.mirror_report.specs.Report.{drain_text}

-- the draining of a mirror stopped at one of its turns: the turns before it and that one were made, and
-- the text of those before it was appended
pub record IsStoppedDrain {W : Type 0} (number turns : ℕ) (old new : MirrorState W)
    (before now : List ℕ) : Type 0 where
  pub at : ℕ
  pub there : at < turns
  pub state : new ≡ drain_within (at + 1) old
  pub text : now ≡ before ++ drain_text number at old
