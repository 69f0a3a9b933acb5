-- The answers, with the number of repaired copies told without settling.
use Rattle.std.proofs.Common.{◌≡◌, ℕ, ◌<◌, cond, length, refl, ap}
use Rattle.game_trait.specs.declared.command.Command.{Command}
use Rattle.game_trait.specs.declared.event.Event.TheVariants.{Arrive, Step}
use Rattle.game_trait.specs.declared.event.Reply.TheVariants.{Arrive as ToArrive, Step as ToStep}
use Rattle.game_trait.specs.declared.event.Arrived.TheVariants.{Taken, Repeat, Late}
use Rattle.game_trait.specs.declared.event.Stepped.TheVariants.{Ran, Idle}
use Rattle.sync_model.specs.State.{MirrorState, last_clock}
use Rattle.sync_model.specs.Change.{said, is_repeat, is_late, is_idle}
use Rattle.sync_model.specs.Staggered.{IsStaggered}
use Rattle.sync_model.specs.Repairs.{repaired_by_step, repaired_by_arrival}
use Rattle.sync_model.proofs.Cases.{arrive-cases, step-cases}
use Rattle.sync_model.proofs.Staggered.{below_limit}
use Rattle.sync_model.proofs.Repairs.{step_count}
use Rattle.sync_model.proofs.Arrivals.{arrival_count}

pub arrival_repairs :
    {W : Type 0} (s : MirrorState W) (x : Command) → IsStaggered s
    → said s (Arrive x) ≡ ToArrive (cond (is_repeat s x) Repeat (cond (is_late s x) (Late (last_clock s.runs)) (Taken (repaired_by_arrival x s.runs))))
arrival_repairs s x here =
    arrive-cases s x (λ t r. r ≡ ToArrive (cond (is_repeat s x) Repeat (cond (is_late s x) (Late (last_clock s.runs)) (Taken (repaired_by_arrival x s.runs)))))
    (λ e. rw e refl)
    (λ e l. rw (e, l) refl)
    (λ e l. rw (e, l) (ap (λ (n : ℕ). ToArrive (Taken n)) (arrival_count s.accepted x s.runs e here.trailing.chained here.trailing.complete)))

pub step_repairs :
    {W : Type 0} (s : MirrorState W) (c : ℕ) → IsStaggered s → c < length s.runs
    → said s (Step c) ≡ ToStep (cond (is_idle s c) Idle (Ran (repaired_by_step s.accepted s.runs c)))
step_repairs s c here there =
    step-cases s c (λ t r. r ≡ ToStep (cond (is_idle s c) Idle (Ran (repaired_by_step s.accepted s.runs c))))
    (λ e. rw e refl)
    (λ e. rw e (ap (λ (n : ℕ). ToStep (Ran n)) (step_count s.accepted s.runs c here.trailing.chained here.trailing.complete (below_limit s c e).0 there)))
