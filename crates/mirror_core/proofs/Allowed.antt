-- How many copies may be stale hangs on what a tick and a change of the plan leave as it was.
use Rattle.std.proofs.Common.{ℕ, length}
use Rattle.std.specs.Prelude.{Bool}
use Rattle.game_trait.specs.declared.event.Event.TheVariants.{Tick, Restagger}
use Rattle.sync_model.specs.State.{MirrorState}
use Rattle.sync_model.specs.Change.{next}
use Rattle.sync_model.specs.Turns.{is_drained}
use Rattle.sync_model.proofs.Cases.{tick-cases, restagger-cases}

module _ {W : Type 0} (s : MirrorState W) (P : Bool → ℕ → Type 0)
    (h : P (is_drained s) (length s.runs)) where
  pub allowed-tick : P (is_drained (next s Tick)) (length (next s Tick).runs)
  allowed-tick = tick-cases s (λ t r. P (is_drained t) (length t.runs)) (λ e. h) (λ e. h)

  pub allowed-restagger :
      (plan : ℕ) → P (is_drained (next s (Restagger plan))) (length (next s (Restagger plan)).runs)
  allowed-restagger plan = restagger-cases s plan (λ t r. P (is_drained t) (length t.runs)) h
