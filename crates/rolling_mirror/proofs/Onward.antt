-- Which windows let turns go on.
use Rattle.std.proofs.Common.{◌≡◌, ℕ, zero, suc, ◌+◌, ◌-◌, ◌≤◌, ◌<◌, min, true, false, cond, eqb, List, [], ◌∷◌, length, get_or, refl, ap, sym, ◌∙◌, arith}
use Rattle.std.proofs.lemmas.Bool.Decides.{nat_tests}
use Rattle.game_trait.specs.declared.event.Event.TheVariants.{Step}
use Rattle.game_trait.specs.Game.{Rules}
use Rattle.sync_model.specs.Change.{next, after, is_idle}
use Rattle.sync_model.specs.Lists.{last_of}
use Rattle.sync_model.specs.Schedule.{DelaysRise, longest_delay}
use Rattle.sync_model.specs.Staggered.{IsTrailing}
use Rattle.sync_model.specs.State.{MirrorState, delays_of, last_clock, step_limit}
use Rattle.sync_model.specs.Turns.{steps_from}
use Rattle.sync_model.proofs.Along.{steps-keep}
use Rattle.sync_model.proofs.Cases.{ran, next-fixed}
use Rattle.sync_model.proofs.Lists.{last_of-at}
use Rattle.rolling_mirror.specs.Rolling.{RollState, without_lists, left_after, left_after_all, is_full, is_held, turned}
use Rattle.rolling_mirror.proofs.Followed.{steps-last, went, dont-fall}
use Rattle.rolling_mirror.proofs.Turns.{step-clock}

-- lists and room decide no step
limit-bare : {W : Type 0} (s : MirrorState W) (c : ℕ) → step_limit (without_lists s) c ≡ step_limit s c
unfolding step_limit
limit-bare s zero = refl
limit-bare s (suc c) = refl

bare-step : {W : Type 0} (s : MirrorState W) (c : ℕ) → without_lists (next (without_lists s) (Step c)) ≡ without_lists (next s (Step c))
unfolding next
bare-step s c =
    rw (limit-bare s c)
    (elim (is_idle s c) as (λ v. without_lists (cond v (without_lists s) (ran (without_lists s) c)) ≡ without_lists (cond v s (ran s c))) [ true ↦ refl | false ↦ refl ])

same-step : {W : Type 0} (s t : MirrorState W) (c : ℕ) → without_lists s ≡ without_lists t → without_lists (next s (Step c)) ≡ without_lists (next t (Step c))
same-step {W} s t c same = sym (bare-step s c) ∙ ap (λ (u : MirrorState W). without_lists (next u (Step c))) same ∙ bare-step t c

steps-bare :
    {W : Type 0} (n c : ℕ) (r : RollState W) (s : MirrorState W) → without_lists r.left ≡ without_lists s
    → without_lists (left_after_all r (steps_from c n)).left ≡ without_lists (after s (steps_from c n))
unfolding left_after_all steps_from after
steps-bare zero c r s same = same
steps-bare (suc n) c r s same = steps-bare n (c + 1) (left_after r (Step c)) (next s (Step c)) (same-step r.left s c same)

-- the last delay is the longest
last-delay : (ds : List ℕ) (n : ℕ) → length ds ≡ n → 0 < n → get_or ds (n - 1) 0 ≡ last_of 0 ds
unfolding last_of
last-delay [] n is some = absurd (omega arith)
last-delay (d ∷ ds) n is some = (let back : n - 1 ≡ length ds = omega arith in ap (λ (k : ℕ). get_or (d ∷ ds) k 0) back ∙ sym (last_of-at d 0 ds))

-- how far the last copy may run where the window is full
room-more : (long clock delay : ℕ) → delay + 2 ≤ long → eqb (clock + 1) long ≡ true → went (min long (clock - delay)) 0 ≡ 1
room-more long clock delay fits full = grind (arith, nat_tests)

room-none : (long clock delay : ℕ) → long ≤ delay + 1 → eqb (clock + 1) long ≡ true → went (min long (clock - delay)) 0 ≡ 0
room-none long clock delay fits full = grind (arith, nat_tests)

module _
    {W : Type 0} (rules : Rules W) (r : RollState W) (trailing : IsTrailing r.left.accepted r.left.runs) (some : 0 < length r.left.runs)
    (rise : DelaysRise (delays_of r.left)) (many : length (delays_of r.left) ≡ length r.left.runs)
    (none : last_clock r.left.runs ≡ 0) (full : is_full r ≡ true) where
  abbrev n : ℕ
  n = length r.left.runs

  steps-only : turned rules r ≡ left_after_all r (steps_from 0 n)
  steps-only = (let held : is_held r ≡ true = rw (none, full) refl in rw held refl)

  as-whole : without_lists (turned rules r).left ≡ without_lists (after r.left (steps_from 0 n))
  as-whole = ap (λ (t : RollState W). without_lists t.left) steps-only ∙ steps-bare n 0 r r.left refl

  last-goes : last_clock (turned rules r).left.runs ≡ went (min r.left.length (r.left.clock - longest_delay (delays_of r.left))) 0
  last-goes =
      let one : n ≡ suc (n - 1) = omega arith in
      ap (λ (s : MirrorState W). last_clock s.runs) as-whole
      ∙ ap (λ (m : ℕ). last_clock (after r.left (steps_from 0 m)).runs) one
      ∙ steps-last (n - 1) 0 n (min r.left.length (r.left.clock - longest_delay (delays_of r.left))) 0 r.left
      (record {
        trails = trailing;
        many = refl;
        order = dont-fall (delays_of r.left) n rise many;
        room_is = ap (λ (d : ℕ). min r.left.length (r.left.clock - d)) (last-delay (delays_of r.left) n many some);
      })
      (omega arith) none (λ more i below. absurd (omega arith))

  pub goes-on : longest_delay (delays_of r.left) + 2 ≤ r.left.length → last_clock (turned rules r).left.runs ≡ 1
  goes-on fits = last-goes ∙ room-more r.left.length r.left.clock (longest_delay (delays_of r.left)) fits full

  pub stops : r.left.length ≤ longest_delay (delays_of r.left) + 1 → (last_clock (turned rules r).left.runs ≡ 0) × (is_full (turned rules r) ≡ true)
  stops short =
      let clock : (turned rules r).left.clock ≡ r.left.clock =
      ap (λ (s : MirrorState W). s.clock) as-whole ∙ steps-keep (λ t. t.clock ≡ r.left.clock) (λ t c h. step-clock t c ∙ h) n 0 r.left refl in
      let long : (turned rules r).left.length ≡ r.left.length =
      ap (λ (s : MirrorState W). s.length) as-whole ∙ steps-keep (λ t. t.length ≡ r.left.length) (λ t c h. (next-fixed t (Step c)).length ∙ h) n 0 r.left refl in
      (last-goes ∙ room-none r.left.length r.left.clock (longest_delay (delays_of r.left)) short full, rw (clock, long) full)
