-- What always holds of a mirror holds at the opening of a match, and every event keeps it.
use Rattle.std.proofs.Common.{◌≡◌, refl, ℕ, List}
use Rattle.game_trait.specs.declared.event.Event.{Event}
use Rattle.sync_model.specs.State.{MirrorState, opening_state}
use Rattle.sync_model.specs.WellFormed.{IsWellFormed}
use Rattle.sync_model.specs.Change.{next, answers, Fits}
use Rattle.sync_model.specs.Consistent.{IsConsistent}
use Rattle.sync_model.specs.History.{HasRoom, EachChanges, repairs, repairs_in}
use Rattle.sync_model.proofs.Staggered.{staggered_kept, opening_staggered}
use Rattle.sync_model.proofs.Along.{well_formed_kept}
use Rattle.sync_model.proofs.Room.{from_history_kept, opening_from_history, from_history_reached}
use Rattle.sync_model.proofs.Room.{history_of_changes}

-- every event that may be made keeps it
pub consistent-next :
    {W : Type 0} (s : MirrorState W) (e : Event) → Fits s e → HasRoom s e → IsConsistent s
    → IsConsistent (next s e)
consistent-next s e fits room here = record {
  staggered = staggered_kept s e fits here.staggered;
  well_formed = well_formed_kept s e fits here.well_formed;
  from_history = from_history_kept s e room here.from_history;
  each_changes =
      history_of_changes s e (from_history_reached s here.from_history) here.each_changes;
}

-- it holds at the opening of a match whose mirrors are well formed
pub consistent-opening :
    {W : Type 0} (opening : W) (ticks : ℕ) (plans : List (List ℕ)) (room restaggers : ℕ)
    → IsWellFormed (opening_state opening ticks plans room restaggers)
    → IsConsistent (opening_state opening ticks plans room restaggers)
unfolding EachChanges
consistent-opening opening ticks plans room restaggers formed = record {
  staggered = opening_staggered opening ticks plans room restaggers;
  well_formed = formed;
  from_history = opening_from_history opening ticks plans room restaggers;
  each_changes = tt;
}

-- and nothing is repaired yet
pub no_repair-opening :
    {W : Type 0} (opening : W) (ticks : ℕ) (plans : List (List ℕ)) (room restaggers : ℕ)
    → repairs (opening_state opening ticks plans room restaggers) ≡ 0
unfolding repairs_in answers
no_repair-opening opening ticks plans room restaggers = refl
