-- The numbers that a mirror keeps for its copies.
use Rattle.std.specs.Prelude.{◌≡◌, ℕ, ◌+◌, ◌<◌, ◌^◌, Bool, if◌then◌else◌, List, length}
use Rattle.std.specs.Prelude.{slice_index_or}
use Rattle.sync_model.specs.State.{MirrorState}
use Rattle.sync_model.specs.Drafts.{epoch}

-- each number has room for one more
abbrev pub AreSmall : List ℕ → Type 0
AreSmall numbers = (c : ℕ) → c < length numbers → slice_index_or numbers c 0 < 2 ^ 63

-- the numbers of the marked copies go up by one, and the others stay
pub record AreRenewed (marks : ℕ → Bool) (old new : List ℕ) : Type 0 where
  pub as_many : length new ≡ length old
  pub each :
      (c : ℕ) → c < length old
      → slice_index_or new c 0 ≡ slice_index_or old c 0 + (if marks c then 1 else 0)

-- the numbers are the epochs of the copies
pub record AreEpochs {W : Type 0} (s : MirrorState W) (numbers : List ℕ) : Type 0 where
  pub as_many : length numbers ≡ length s.runs
  pub each : (c : ℕ) → c < length numbers → slice_index_or numbers c 0 ≡ epoch s c
