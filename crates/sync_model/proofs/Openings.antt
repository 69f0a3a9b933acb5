-- Worlds decide nothing: a mirror of another game goes on alike.
use Rattle.std.proofs.Common.{◌≡◌, ℕ, zero, suc, true, false, cond, List, [], ◌∷◌, refl, ap, ◌∙◌}
use Rattle.game_trait.specs.declared.event.Event.{Event}
use Rattle.game_trait.specs.declared.event.Event.TheVariants.{Tick, Arrive, Step, Restagger}
use Rattle.game_trait.specs.declared.event.Reply.{Reply}
use Rattle.sync_model.specs.Change.{next, said, is_over, is_repeat, is_late, is_idle, after, answers}
use Rattle.sync_model.specs.Openings.{with_opening}
use Rattle.sync_model.specs.State.{MirrorState, step_limit}
use Rattle.sync_model.proofs.Cases.{moved, away, taken, ran}

module _ {V W : Type 0} (o : W) where
  -- no limit depends on it
  limit-opening : (s : MirrorState V) (c : ℕ) → step_limit (with_opening o s) c ≡ step_limit s c
  unfolding step_limit
  limit-opening s zero = refl
  limit-opening s (suc c) = refl

  pub said-opening : (s : MirrorState V) (e : Event) → said (with_opening o s) e ≡ said s e
  unfolding said
  said-opening s Tick = refl
  said-opening s (Arrive x) = refl
  said-opening s (Step c) = rw (limit-opening s c) refl
  said-opening s (Restagger p) = refl

  pub next-opening : (s : MirrorState V) (e : Event) → next (with_opening o s) e ≡ with_opening o (next s e)
  unfolding next
  next-opening s Tick =
      elim (is_over s) as (λ v. cond v (with_opening o s) (moved (with_opening o s)) ≡ with_opening o (cond v s (moved s))) [ true ↦ refl | false ↦ refl ]
  next-opening s (Arrive x) =
      elim (is_repeat s x) as (λ v. cond v (with_opening o s) (cond (is_late s x) (away (with_opening o s) x) (taken (with_opening o s) x))
      ≡ with_opening o (cond v s (cond (is_late s x) (away s x) (taken s x)))) [
        | true ↦ refl
        | false ↦
            elim (is_late s x) as (λ v. cond v (away (with_opening o s) x) (taken (with_opening o s) x) ≡ with_opening o (cond v (away s x) (taken s x)))
            [ true ↦ refl | false ↦ refl ]
      ]
  next-opening s (Step c) =
      rw (limit-opening s c)
      (elim (is_idle s c) as (λ v. cond v (with_opening o s) (ran (with_opening o s) c) ≡ with_opening o (cond v s (ran s c))) [ true ↦ refl | false ↦ refl ])
  next-opening s (Restagger p) = refl

  pub after-opening : (es : List Event) (s : MirrorState V) → after (with_opening o s) es ≡ with_opening o (after s es)
  unfolding after
  after-opening [] s = refl
  after-opening (e ∷ es) s = ap (λ (t : MirrorState W). after t es) (next-opening s e) ∙ after-opening es (next s e)

  pub answers-opening : (es : List Event) (s : MirrorState V) → answers (with_opening o s) es ≡ answers s es
  unfolding answers
  answers-opening [] s = refl
  answers-opening (e ∷ es) s =
      ap (λ (r : Reply). r ∷ answers (next (with_opening o s) e) es) (said-opening s e)
      ∙ ap (λ (t : MirrorState W). said s e ∷ answers t es) (next-opening s e)
      ∙ ap (λ (rs : List Reply). said s e ∷ rs) (answers-opening es (next s e))
