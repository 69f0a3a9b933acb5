-- A mirror that is drained has the time-ordered execution in every copy.
use Rattle.std.proofs.Common.{ℕ, zero, suc, List, [], ◌∷◌}
use Rattle.std.specs.Prelude.{slice_index_or}
use Rattle.std.specs.List.{AllByRecursion}
use Rattle.game_trait.specs.Game.{Rules}
use Rattle.sync_model.specs.Consistent.{IsConsistent}
use Rattle.sync_model.specs.Schedule.{DelaysRise, IsSchedule}
use Rattle.sync_model.specs.State.{MirrorState}
use Rattle.sync_model.specs.Turns.{drain}
use Rattle.sync_model.proofs.Drain.{draining_ends, drained_worlds, staggered-drain}
use Rattle.mirror_core.specs.Drained.{AreInOrder}

-- the delays of the plan in force rise, as those of every plan do
rising : (ticks : ℕ) (plans : List (List ℕ)) (p : ℕ)
    → AllByRecursion (λ delays. IsSchedule (record { delays = delays; length = ticks })) plans
    → DelaysRise (slice_index_or plans p [])
unfolding DelaysRise
rising ticks [] p h = tt
rising ticks (delays ∷ plans) zero h = h.0.delays_rise
rising ticks (delays ∷ plans) (suc p) h = rising ticks plans p h.1

pub in-order : {W : Type 0} (rules : Rules W) (s : MirrorState W) → IsConsistent s → AreInOrder rules (drain s)
in-order rules s is =
    let rise = rising s.length s.plans s.plan is.well_formed.plans.schedules in
    drained_worlds rules (drain s) (staggered-drain s is.staggered) (draining_ends s rise is.staggered)
