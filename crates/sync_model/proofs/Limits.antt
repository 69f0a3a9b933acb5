-- The tests that a mirror makes of its copies' clocks, as the model's.
use Rattle.std.proofs.Common.{◌≡◌, refl, ◌∙◌, ap, sym, ℕ, zero, suc, ◌-◌, ◌≤◌, ◌<◌, true, false, List, [], ◌∷◌, length, arith}
use Rattle.std.proofs.lemmas.Bool.Decides.{nat_tests}
use Rattle.game_trait.specs.declared.command.Item.{Item}
use Rattle.game_trait.specs.Run.{beats}
use Rattle.sync_model.specs.Lists.{last_of}
use Rattle.sync_model.specs.Schedule.{limit_at}
use Rattle.sync_model.specs.State.{MirrorState, schedule_of, copy_clock, last_clock, step_limit}
use Rattle.sync_model.specs.Change.{is_idle}
use Rattle.sync_model.proofs.Lists.{last_of-at}
use Rattle.sync_model.proofs.Staggered.{below_limit}
use Rattle.sync_model.proofs.Trailing.{IsBehindAhead}

-- the limits of a copy
pub limit-first :
    {W : Type 0} (s : MirrorState W) (copy : ℕ) → copy ≡ 0
    → limit_at (schedule_of s) copy s.clock 0 ≡ step_limit s copy
unfolding step_limit
limit-first s zero first = refl
limit-first s (suc copy) first = absurd (omega arith)

pub limit-behind :
    {W : Type 0} (s : MirrorState W) (copy ahead : ℕ) → (copy ≡ 0 → ⊥)
    → ahead ≡ copy_clock s.runs (copy - 1)
    → limit_at (schedule_of s) copy s.clock ahead ≡ step_limit s copy
unfolding step_limit
limit-behind s zero ahead behind is = absurd (behind refl)
limit-behind s (suc copy) ahead behind is =
    let back : suc copy - 1 ≡ copy = omega arith in
    ap (limit_at (schedule_of s) (suc copy) s.clock) (is ∙ ap (copy_clock s.runs) back)

-- the last copy
pub last-is : (runs : List (List Item)) (copies : ℕ) → copies ≡ length runs → 0 < length runs → copy_clock runs (copies - 1) ≡ last_clock runs
unfolding last_of
last-is [] copies many some = absurd (omega arith)
last-is (run ∷ runs) copies many some =
    let back : copies - 1 ≡ length runs = omega arith in
    rw back (sym (ap beats (last_of-at run [] runs)))

module _ {W : Type 0} (s : MirrorState W) where
  -- a copy at its limit, and one below it
  pub idle-at :
      (copy clock limit : ℕ) → clock ≡ copy_clock s.runs copy → limit ≡ step_limit s copy
      → limit ≤ clock → is_idle s copy ≡ true
  idle-at copy clock limit at upto idle = grind (arith, nat_tests)

  pub runs-on :
      (copy clock limit : ℕ) → clock ≡ copy_clock s.runs copy → limit ≡ step_limit s copy
      → clock < limit → is_idle s copy ≡ false
  runs-on copy clock limit at upto more = grind (arith, nat_tests)

  pub below-end : (copy : ℕ) → is_idle s copy ≡ false → copy_clock s.runs copy < s.length
  below-end copy more = (let room = (below_limit s copy more).1 in omega arith)

  pub behind-ahead :
      (copy : ℕ) → is_idle s copy ≡ false → 0 < copy
      → copy_clock s.runs copy < copy_clock s.runs (copy - 1)
  unfolding IsBehindAhead
  behind-ahead zero more some = absurd (omega arith)
  behind-ahead (suc copy) more some =
      (let back : suc copy - 1 ≡ copy = omega arith in rw back (below_limit s (suc copy) more).0)
