-- A mirror from its opening state along any events that fit, and then drained.
use Rattle.std.proofs.Common.{ℕ, zero, suc, List, [], ◌∷◌, get_or, sym, subst}
use Rattle.std.specs.List.{AllByRecursion}
use Rattle.game_trait.specs.declared.event.Event.{Event}
use Rattle.sync_model.specs.Schedule.{DelaysRise}
use Rattle.sync_model.specs.State.{MirrorState, opening_state, delays_of}
use Rattle.sync_model.specs.Change.{Fits, after}
use Rattle.sync_model.specs.Staggered.{IsStaggered}
use Rattle.sync_model.specs.Turns.{EndsInOrder}
use Rattle.sync_model.proofs.Staggered.{opening_staggered}
use Rattle.sync_model.proofs.Along.{staggered_along}
use Rattle.sync_model.proofs.Cases.{after-fixed}
use Rattle.sync_model.proofs.Drain.{draining_ends, drain-ordered, draining_delivers_nothing}

pub ends_in_order : {W : Type 0} (s : MirrorState W) → DelaysRise (delays_of s) → IsStaggered s → EndsInOrder s
ends_in_order s rise here = record { drained = draining_ends s rise here; arrivals = draining_delivers_nothing s; in_order = drain-ordered s rise here }

-- the delays of each plan rise, also of one that isn't there
rise-each : (plans : List (List ℕ)) (p : ℕ) → AllByRecursion DelaysRise plans → DelaysRise (get_or plans p [])
unfolding DelaysRise
rise-each [] p h = tt
rise-each (delays ∷ plans) zero h = h.0
rise-each (delays ∷ plans) (suc p) h = rise-each plans p h.1

pub played :
    {W : Type 0} (opening : W) (length : ℕ) (plans : List (List ℕ)) (spare plan_spare : ℕ) (es : List Event)
    → AllByRecursion DelaysRise plans → AllByRecursion (Fits (opening_state opening length plans spare plan_spare)) es
    → IsStaggered (after (opening_state opening length plans spare plan_spare) es) × EndsInOrder (after (opening_state opening length plans spare plan_spare) es)
played opening length plans spare plan_spare es rise fit =
    let start = opening_state opening length plans spare plan_spare in
    let here = staggered_along es (opening_state opening length plans spare plan_spare) fit (opening_staggered opening length plans spare plan_spare) in
    let fixed = after-fixed es (opening_state opening length plans spare plan_spare) in (
      here,
      ends_in_order (after (opening_state opening length plans spare plan_spare) es)
          (rise-each (after start es).plans (after start es).plan
          (subst (AllByRecursion DelaysRise) (sym fixed.plans) rise)) here,
    )
