-- The steps of a turn and the turns of draining, one by one.
use Rattle.std.proofs.Common.{◌≡◌, ℕ, zero, suc, ◌+◌, ◌-◌, ◌<◌, ◌≤◌, true, false, [], ◌∷◌, refl, ap, arith}
use Rattle.game_trait.specs.declared.event.Event.TheVariants.{Step}
use Rattle.sync_model.specs.State.{MirrorState}
use Rattle.sync_model.specs.Change.{next, after}
use Rattle.sync_model.specs.Turns.{steps_from, turn, is_drained, drain_within}

-- n steps from copy c on are a step of copy c and the others
pub steps-more : (c end : ℕ) → c < end → steps_from c (end - c) ≡ Step c ∷ steps_from (c + 1) (end - (c + 1))
unfolding steps_from
steps-more c end h = (let e : end - c ≡ suc (end - (c + 1)) = omega arith in ap (steps_from c) e)

-- no step is left
pub steps-none : (c end : ℕ) → end ≤ c → steps_from c (end - c) ≡ []
unfolding steps_from
steps-none c end h = (let e : end - c ≡ zero = omega arith in ap (steps_from c) e)

-- a step of copy c, and then those of the copies behind it
pub step-made :
    {W : Type 0} (s t : MirrorState W) (c end : ℕ) → c < end → t ≡ next s (Step c)
    → after t (steps_from (c + 1) (end - (c + 1))) ≡ after s (steps_from c (end - c))
unfolding after
step-made s t c end below stepped = rw (steps-more c end below, stepped) refl

-- a drained mirror makes no turn
pub drained-state : {W : Type 0} (n : ℕ) (s : MirrorState W) → is_drained s ≡ true → drain_within n s ≡ s
unfolding drain_within
drained-state zero s e = refl
drained-state (suc n) s e = rw e refl

-- where no turn is left, none is made
pub no-turns-state : {W : Type 0} (n : ℕ) (s : MirrorState W) → n ≡ 0 → drain_within n s ≡ s
unfolding drain_within
no-turns-state n s e = rw e refl

-- one that isn't drained makes one, and then the others
pub drain-state :
    {W : Type 0} (s t : MirrorState W) (at turns : ℕ) → at < turns → is_drained s ≡ false → t ≡ turn s
    → drain_within (turns - (at + 1)) t ≡ drain_within (turns - at) s
unfolding drain_within
drain-state s t at turns h undrained e = (let n : turns - at ≡ suc (turns - (at + 1)) = omega arith in rw (n, undrained, e) refl)
