-- The mirror at the close of its lock.
use Rattle.std.proofs.Common.{◌≡◌, true, false, cond, List, [], ◌∷◌, ◌++◌, refl, sym, ap, ◌∙◌, subst}
use Rattle.game_trait.specs.Game.{Rules as GameRules}
use Rattle.game_trait.specs.declared.event.Event.{Event as AnEvent}
use Rattle.game_trait.specs.declared.event.Event.TheVariants.{Step}
use Rattle.sync_model.specs.State.{MirrorState}
use Rattle.sync_model.specs.Settle.{repaired}
use Rattle.sync_model.specs.Change.{next, proposed_by_step, after}
use Rattle.sync_model.specs.Consistent.{IsConsistent}
use Rattle.sync_model.specs.Drafts.{epoch}
use Rattle.sync_model.proofs.Cases.{next-plan}
use Rattle.sync_model.proofs.History.{history_grows, changing_events_suffice}
use Rattle.mirror_core.specs.declared.drafts.Committed.TheVariants.{Ran, Stale}
use Rattle.mirror_core.specs.Drafts.{is_current, committed_to}
use Rattle.mirror_lock.specs.declared.calls.LockCall.{LockCall}
use Rattle.mirror_lock.specs.declared.calls.LockCall.TheVariants.{Event, Draft, Commit}
use Rattle.mirror_lock.specs.declared.calls.LockReply.{LockReply}
use Rattle.mirror_lock.specs.declared.calls.LockReply.TheVariants.{Commit as ToCommit}
use Rattle.turn_lock.specs.declared.history.Entry.{Entry}
use Rattle.turn_lock.specs.declared.view.Member.{Member}
use Rattle.turn_lock.specs.Histories.{value, IsSound}
use Rattle.turn_lock.specs.Closing.{IsHistoryOf}
use Rattle.mirror_lock.specs.Locked.{next_locked, said_locked, FitsLocked, mirror_rules}
use Rattle.mirror_lock.specs.Ending.{events_of_call, events_of_log, EndsAs}

module _ {W : Type 0} (game : GameRules W) where
  -- a call leads to the state after the event for which it stands, if it stands for one
  after_call :
      (s : MirrorState W) (q : LockCall W) (r : LockReply W) (es : List AnEvent) → r ≡ said_locked game s q
      → after s (events_of_call q r ++ es) ≡ after (next_locked s q) es
  unfolding after
  after_call s (Event e) r es told = refl
  after_call s (Draft c n) r es told = refl
  after_call s (Commit t) r es told =
      subst (λ (reply : LockReply W). after s (events_of_call (Commit t) reply ++ es) ≡ after (committed_to s t) es) (sym told)
      (elim (is_current s t) as (λ v. after s (events_of_call (Commit t)
      (ToCommit (cond v (Ran (repaired s.accepted (proposed_by_step s.accepted s.runs t.copy)))
      (Stale t.epoch (epoch s t.copy)))) ++ es) ≡ after (cond v (next s (Step t.copy)) s) es)
      [ true ↦ refl | false ↦ refl ])

  -- the value after a history is the state after its events
  value_is_after : (s : MirrorState W) (log : List (Entry (LockCall W) (LockReply W))) → IsSound (mirror_rules game) s log → value (mirror_rules game) s log ≡ after s (events_of_log log)
  unfolding after
  value_is_after s [] sound = refl
  value_is_after s (e ∷ log) sound = value_is_after (next_locked s e.call) log sound.2 ∙ sym (after_call s e.call e.reply (events_of_log log) sound.1)

  -- no call of a sound history puts another plan in force
  plan_stays : (s : MirrorState W) (q : LockCall W) → FitsLocked game s q → (next_locked s q).plan ≡ s.plan
  plan_stays s (Event e) fits = next-plan s e fits.1.0
  plan_stays s (Draft c n) fits = refl
  plan_stays s (Commit t) fits =
      elim (is_current s t) as (λ v. (cond v (next s (Step t.copy)) s).plan ≡ s.plan) [ true ↦ next-plan s (Step t.copy) refl | false ↦ refl ]

  same_plan : (s : MirrorState W) (log : List (Entry (LockCall W) (LockReply W))) → IsSound (mirror_rules game) s log → (value (mirror_rules game) s log).plan ≡ s.plan
  same_plan s [] sound = refl
  same_plan s (e ∷ log) sound = same_plan (next_locked s e.call) log sound.2 ∙ plan_stays s e.call sound.0

  ends_as :
      (opening : MirrorState W) (seats : List (Member (LockCall W) (LockReply W))) (mirror : MirrorState W)
      → IsHistoryOf (mirror_rules game) opening seats mirror
      → IsConsistent mirror
      → EndsAs game opening seats mirror
  ends_as opening seats mirror whole consistent =
      let is : mirror ≡ after opening (events_of_log whole.log) = whole.object_is ∙ value_is_after opening whole.log whole.sound in
      record {
        whole = whole;
        history = ap (λ (s : MirrorState W). s.history) is ∙ history_grows opening (events_of_log whole.log);
        state = is ∙ sym (changing_events_suffice (events_of_log whole.log) opening);
        same_plan = ap (λ (s : MirrorState W). s.plan) whole.object_is ∙ same_plan opening whole.log whole.sound;
        consistent = consistent;
      }

  -- the same of an opening and a mirror that are known by equations
  pub ends_from :
      (opening o : MirrorState W) (seats : List (Member (LockCall W) (LockReply W))) (mirror m : MirrorState W)
      → IsHistoryOf (mirror_rules game) o seats m
      → o ≡ opening
      → mirror ≡ m
      → IsConsistent mirror
      → EndsAs game opening seats mirror
  ends_from opening o seats mirror m whole begins same consistent =
      ends_as opening seats mirror (subst (λ (z : MirrorState W × MirrorState W). IsHistoryOf (mirror_rules game) z.0 seats z.1) (λ i. (begins i, sym same i)) whole) consistent
