-- Turns of a joiner are those of its inner mirror.
use Rattle.std.proofs.Common.{◌≡◌, refl, ◌∙◌, ap, sym, ℕ, zero, suc, ◌+◌, true, false, cond, length}
use Rattle.game_trait.specs.declared.event.Event.TheVariants.{Tick, Step}
use Rattle.game_trait.specs.Game.{Rules}
use Rattle.sync_model.specs.State.{MirrorState}
use Rattle.sync_model.specs.Change.{next, after}
use Rattle.sync_model.specs.Turns.{steps_from, turn_events, turn, is_drained, drain_within, drain_bound, drain}
use Rattle.game_trait.specs.Shifted.{ShiftedWorld}
use Rattle.late_joiner.specs.Joiner.{JoinerState, inner_next, joiner_next, joiner_after, IsJoined, IsInRoom}
use Rattle.late_joiner.proofs.Joining.{keeps}

-- steps are the inner mirror's
steps-inner : {W : Type 0} (n c : ℕ) (s : JoinerState W) → joiner_after s (steps_from c n) ≡ record s { inner = after s.inner (steps_from c n) }
unfolding joiner_after joiner_next after steps_from
steps-inner zero c s = refl
steps-inner (suc n) c s = steps-inner n (c + 1) (record s { inner = next s.inner (Step c) })

-- and so is a turn
pub turn-inner : {W : Type 0} (n : ℕ) (s : JoinerState W) → joiner_after s (turn_events n) ≡ record s { inner = after s.inner (turn_events n) }
unfolding joiner_after joiner_next after
turn-inner n s = steps-inner n 0 (record s { inner = next s.inner Tick })

pub turned-by :
    {W : Type 0} (s : JoinerState W) (t : MirrorState (ShiftedWorld W)) → t ≡ turn s.inner
    → record s { inner = t } ≡ joiner_after s (turn_events (length s.inner.runs))
turned-by {W} s t is = ap (λ (x : MirrorState (ShiftedWorld W)). record s { inner = x }) is ∙ sym (turn-inner (length s.inner.runs) s)

module _ {W : Type 0} (rules : Rules W) where
  -- what is always true of a joiner and its room
  abbrev Kept : JoinerState W → Type 0
  Kept s = IsJoined rules s × IsInRoom s

  keeps-steps : (n c : ℕ) (s : JoinerState W) → Kept s → Kept (record s { inner = after s.inner (steps_from c n) })
  unfolding after steps_from
  keeps-steps zero c s h = h
  keeps-steps (suc n) c s h = keeps-steps n (c + 1) (inner_next s (Step c)) (keeps rules s (Step c) tt h)

  -- is so after a turn
  pub keeps-turn : (s : JoinerState W) → Kept s → Kept (record s { inner = turn s.inner })
  unfolding after
  keeps-turn s h = keeps-steps (length s.inner.runs) 0 (inner_next s Tick) (keeps rules s Tick tt h)

  keeps-within : (n : ℕ) (s : JoinerState W) → Kept s → Kept (record s { inner = drain_within n s.inner })
  unfolding drain_within
  keeps-within zero s h = h
  keeps-within (suc n) s h =
      elim (is_drained s.inner) as (λ v. Kept (record s { inner = cond v s.inner (drain_within n (turn s.inner)) }))
      [ true ↦ h | false ↦ keeps-within n (record s { inner = turn s.inner }) (keeps-turn s h) ]

  -- and once it is drained
  pub keeps-drain : (s : JoinerState W) → Kept s → Kept (record s { inner = drain s.inner })
  keeps-drain s h = keeps-within (drain_bound s.inner) s h
