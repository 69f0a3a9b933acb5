-- A draft that a locked mirror answered may be committed, once it is run.
use Rattle.std.proofs.Common.{◌≡◌, ℕ, ◌<◌, true, false, cond, List, [], ◌∷◌, ◌++◌, length, sym, ap, subst}
use Rattle.std.specs.Prelude.{Option, Some, None, IfSome, is_some, nat_lt}
use Rattle.game_trait.specs.Game.{Rules as GameRules}
use Rattle.sync_model.specs.State.{MirrorState}
use Rattle.sync_model.specs.Change.{is_idle}
use Rattle.sync_model.specs.History.{IsReached}
use Rattle.sync_model.specs.Drafts.{draft_of, ready_of}
use Rattle.sync_model.proofs.Epochs.{draft_fits}
use Rattle.mirror_core.specs.declared.drafts.TheConstants.{MOST_DRAFTED}
use Rattle.mirror_core.specs.declared.drafts.Drafted.{Drafted}
use Rattle.mirror_core.specs.declared.drafts.Drafted.TheVariants.{Draft as ADraft, Idle, Wide}
use Rattle.mirror_core.specs.Drafts.{due_len, drafted, IfDraft}
use Rattle.mirror_lock.specs.declared.calls.LockCall.{LockCall}
use Rattle.mirror_lock.specs.declared.calls.LockCall.TheVariants.{Draft, Commit}
use Rattle.mirror_lock.specs.declared.calls.LockReply.{LockReply}
use Rattle.mirror_lock.specs.declared.calls.LockReply.TheVariants.{Event as ToEvent, Draft as ToDraft, Commit as ToCommit}
use Rattle.turn_lock.specs.declared.history.Entry.{Entry}
use Rattle.turn_lock.specs.declared.view.View.{View}
use Rattle.turn_lock.specs.Rules.{IsLawful}
use Rattle.turn_lock.specs.Histories.{value, IsSound, entry}
use Rattle.turn_lock.specs.Views.{number_of, seen_of, FitsSeat}
use Rattle.turn_lock.specs.Calls.{IsCall}
use Rattle.turn_lock.proofs.Histories.{value-append, sound_behind, fits_after}
use Rattle.turn_lock.proofs.Serving.{reply_is_said}
use Rattle.mirror_lock.specs.Locked.{next_locked, FitsLocked, mirror_rules}
use Rattle.mirror_lock.specs.Laws.{stays, spends}

-- the draft of a reply, or another where it has none
drafted_in : {W : Type 0} → Drafted W → LockReply W → Drafted W
drafted_in d (ToEvent reply) = d
drafted_in d (ToDraft drafted) = drafted
drafted_in d (ToCommit committed) = d

module _ {W : Type 0} (game : GameRules W) where
  pub lawful : IsLawful (mirror_rules game)
  lawful = record { stays = λ s p q _ fits. stays game s p q fits; spends = λ s q _. spends s q }

  -- in a state that its history leads to
  drafted_fits : (s : MirrorState W) (c : ℕ) → IsReached s → c < length s.runs → IfDraft (drafted game s c) (λ d. FitsLocked game s (Commit (ready_of game d)))
  drafted_fits s c here there =
      elim (is_idle s c) as (λ v. is_idle s c ≡ v → IfDraft
      (cond v Idle (cond (nat_lt MOST_DRAFTED (due_len s c)) (Wide (due_len s c)) (ADraft (draft_of game s c))))
      (λ d. FitsLocked game s (Commit (ready_of game d)))) [
        | true ↦ λ idle. tt
        | false ↦ λ more.
            elim (nat_lt MOST_DRAFTED (due_len s c)) as (λ v. IfDraft (cond v (Wide (due_len s c)) (ADraft (draft_of game s c))) (λ d. FitsLocked game s (Commit (ready_of game d))))
            [ true ↦ tt | false ↦ (here, draft_fits game s c there more) ]
      ]
      (λ i. is_idle s c)

  sound_last :
      (s : MirrorState W) (es : List (Entry (LockCall W) (LockReply W))) (e : Entry (LockCall W) (LockReply W))
      → IsSound (mirror_rules game) s (es ++ e ∷ []) → e.reply ≡ (mirror_rules game).said (value (mirror_rules game) s es) e.call
  sound_last s es e sound = (sound_behind (mirror_rules game) s es (e ∷ []) sound).1

  front_sound :
      (s : MirrorState W) (xs ys : List (Entry (LockCall W) (LockReply W))) → IsSound (mirror_rules game) s (xs ++ ys) → IsSound (mirror_rules game) s xs
  front_sound s [] ys sound = tt
  front_sound s (x ∷ xs) ys sound = (sound.0, sound.1, front_sound (next_locked s x.call) xs ys sound.2)

  by_history :
      (o : MirrorState W) (seen between : List (Entry (LockCall W) (LockReply W))) (i c n : ℕ) (d : Drafted W)
      → FitsLocked game (value (mirror_rules game) o seen) (Draft c n)
      → IsSound (mirror_rules game) o ((seen ++ between) ++ entry i (Draft c n) (ToDraft d) ∷ [])
      → IfDraft d (λ t. FitsLocked game (value (mirror_rules game) o ((seen ++ between) ++ entry i (Draft c n) (ToDraft d) ∷ [])) (Commit (ready_of game t)))
  unfolding drafted_in
  by_history o seen between i c n d fits sound =
      let rules = mirror_rules game in
      let s : MirrorState W = value (mirror_rules game) o (seen ++ between) in
      let own : Entry (LockCall W) (LockReply W) = entry i (Draft c n) (ToDraft d) in
      let front = front_sound o (seen ++ between) (own ∷ []) sound in
      let still : FitsLocked game s (Draft c n) =
      subst (λ (t : MirrorState W). FitsLocked game t (Draft c n)) (sym (value-append rules o seen between))
      (fits_after rules lawful (value rules o seen) between (Draft c n) (sound_behind rules o seen between front) fits) in
      let told : ToDraft d ≡ ToDraft (drafted game s c) = sound_last o (seen ++ between) own sound in
      let is : d ≡ drafted game s c = ap (drafted_in d) told in
      let same : value (mirror_rules game) o ((seen ++ between) ++ own ∷ []) ≡ s = value-append rules o (seen ++ between) (own ∷ []) in
      subst (λ (x : Drafted W). IfDraft x (λ t. FitsLocked game (value (mirror_rules game) o ((seen ++ between) ++ own ∷ [])) (Commit (ready_of game t)))) (sym is)
      (subst (λ (t : MirrorState W). IfDraft (drafted game s c) (λ d. FitsLocked game t (Commit (ready_of game d)))) (sym same)
      (drafted_fits s c still.0 still.1))

  -- as its seat sees it
  pub ready_after_draft :
      (v w : View (MirrorState W) (LockCall W) (LockReply W)) (c n : ℕ) (d : Drafted W)
      → FitsSeat (mirror_rules game) v (Draft c n)
      → IsCall (mirror_rules game) v (Draft c n) (ToDraft d) w
      → IfDraft d (λ t. FitsSeat (mirror_rules game) w (Commit (ready_of game t)))
  ready_after_draft v w c n d fits call =
      let rules = mirror_rules game in
      let before : List (Entry (LockCall W) (LockReply W)) = (seen_of v ++ call.between) ++ entry (number_of v) (Draft c n) (ToDraft d) ∷ [] in
      let opened : w.opening ≡ v.opening = ap (λ (x : View (MirrorState W) (LockCall W) (LockReply W)). x.opening) call.after_is in
      let seen : seen_of w ≡ before = ap (λ (x : View (MirrorState W) (LockCall W) (LockReply W)). seen_of x) call.after_is in
      let sound : IfSome v.opening (λ o. IsSound rules o before) =
      subst (λ es. IfSome v.opening (λ o. IsSound rules o es)) seen (subst (λ x. IfSome x (λ o. IsSound rules o (seen_of w))) opened call.sound) in
      subst (λ x. IfDraft d (λ t. IfSome x (λ o. FitsLocked game (value (mirror_rules game) o (seen_of w)) (Commit (ready_of game t))))) (sym opened)
      (subst (λ es. IfDraft d (λ t. IfSome v.opening (λ o. FitsLocked game (value (mirror_rules game) o es) (Commit (ready_of game t))))) (sym seen)
      (by_opening v.opening fits sound))
    where
      any : (x : Drafted W) → IfDraft x (λ t. Unit {0})
      any (ADraft t) = tt
      any Idle = tt
      any (Wide due) = tt

      by_opening :
          (x : Option (MirrorState W)) → IfSome x (λ o. FitsLocked game (value (mirror_rules game) o (seen_of v)) (Draft c n))
          → IfSome x (λ o. IsSound (mirror_rules game) o ((seen_of v ++ call.between) ++ entry (number_of v) (Draft c n) (ToDraft d) ∷ []))
          → IfDraft d (λ t. IfSome x (λ o. FitsLocked game (value (mirror_rules game) o ((seen_of v ++ call.between) ++ entry (number_of v) (Draft c n) (ToDraft d) ∷ [])) (Commit (ready_of game t))))
      by_opening None f s = any d
      by_opening (Some o) f s = by_history o (seen_of v) call.between (number_of v) c n d f s

  -- the answer is one to a draft, and what it has may be committed
  pub told_after_draft :
      (v w : View (MirrorState W) (LockCall W) (LockReply W)) (c n : ℕ) (r : LockReply W)
      → is_some v.opening ≡ true
      → FitsSeat (mirror_rules game) v (Draft c n)
      → IsCall (mirror_rules game) v (Draft c n) r w
      → (d : Drafted W) × (r ≡ ToDraft d) × IfDraft d (λ t. FitsSeat (mirror_rules game) w (Commit (ready_of game t)))
  told_after_draft v w c n r opened fits call =
      let told = reply_is_said (mirror_rules game) v w (Draft c n) r opened call in
      let d : Drafted W = drafted game told.0 c in
      (d, told.1, ready_after_draft v w c n d fits (subst (λ (x : LockReply W). IsCall (mirror_rules game) v (Draft c n) x w) told.1 call))
