-- What holds of every mirror behind a lock, whatever is asked of it.
use Rattle.std.specs.Prelude.{◌+◌, ◌≤◌, true, false, if◌then◌else◌}
use Rattle.game_trait.specs.Game.{Rules as GameRules}
use Rattle.game_trait.specs.declared.event.Event.{Event as AnEvent}
use Rattle.game_trait.specs.declared.event.Event.TheVariants.{Step}
use Rattle.game_trait.specs.Events.{is_arrival}
use Rattle.sync_model.specs.State.{MirrorState}
use Rattle.sync_model.specs.Change.{next, changes}
use Rattle.sync_model.specs.History.{IsReached}
use Rattle.sync_model.proofs.Along.{fits-next}
use Rattle.sync_model.proofs.Room.{reached_kept, spare-next}
use Rattle.sync_model.proofs.Epochs.{ready_fits_kept}
use Rattle.mirror_core.specs.Drafts.{is_current}
use Rattle.mirror_lock.specs.declared.calls.LockCall.{LockCall}
use Rattle.mirror_lock.specs.declared.calls.LockCall.TheVariants.{Event, Draft, Commit}
use Rattle.mirror_lock.specs.Locked.{next_locked, FitsCall, FitsLocked, is_growing}
use Rattle.turn_lock.specs.Rules.{one_if}
use Rattle.turn_lock.proofs.Spending.{spends_at_some, spends_none}

module _ {W : Type 0} (game : GameRules W) where
  -- a call that fits still fits after any event
  fits_event : (s : MirrorState W) (e : AnEvent) (q : LockCall W) → IsReached s → FitsCall game s q
      → FitsCall game (next s e) q
  fits_event s e (Event x) here fits = (fits.0, fits-next s e x fits.1)
  fits_event s e (Draft c n) here fits = fits-next s e (Step c) fits
  fits_event s e (Commit r) here fits = ready_fits_kept game s e r here fits

  still_locked : (s : MirrorState W) (e : AnEvent) (q : LockCall W) → FitsLocked game s q
      → FitsLocked game (next s e) q
  still_locked s e q fits = (reached_kept s e fits.0, fits_event s e q fits.0 fits.1)

  -- and so after any call
  pub stays : (s : MirrorState W) (p q : LockCall W) → FitsLocked game s q
      → FitsLocked game (next_locked s p) q
  stays s (Event e) q fits = still_locked s e q fits
  stays s (Draft c n) q fits = fits
  stays s (Commit r) q fits =
      elim (is_current s r) as
      (λ v. FitsLocked game (if v then next s (Step r.copy) else s) q) [
        | true ↦ still_locked s
            (Step r.copy) q fits
        | false ↦ fits
      ]

-- an arrival alone uses up room, for one
pub spends : {W : Type 0} (s : MirrorState W) (q : LockCall W)
    → s.spare ≤ (next_locked s q).spare + one_if (is_growing q)
spends s (Event e) =
    spends_at_some (is_arrival e) (changes s e) s.spare (next s e).spare (spare-next s e)
spends s (Draft c n) = spends_none s.spare
spends s (Commit r) =
    elim (is_current s r) as (λ v. s.spare ≤ (if v then next s (Step r.copy) else s).spare + 0) [
      | true ↦ spends_at_some false (changes s (Step r.copy)) s.spare (next s (Step r.copy)).spare
          (spare-next s (Step r.copy))
      | false ↦ spends_none s.spare
    ]
