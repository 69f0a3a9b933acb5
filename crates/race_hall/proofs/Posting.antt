-- What a call of a lock tells of the seat's own entries.
use Rattle.std.proofs.Common.{◌≡◌, ℕ, true, false, cond, List, [], ◌∷◌, ◌++◌, refl, ap, sym, ◌∙◌, subst, append-nil}
use Rattle.std.specs.Prelude.{Option, Some, None, IfSome, is_some, nat_lt, flat_map}
use Rattle.std.proofs.lemmas.Grind.{flat_map-append}
use Rattle.game_trait.specs.Game.{Rules as GameRules}
use Rattle.game_trait.specs.declared.event.Event.{Event as AnEvent}
use Rattle.game_trait.specs.declared.event.Event.TheVariants.{Step}
use Rattle.game_trait.specs.declared.event.Reply.{Reply}
use Rattle.game_trait.specs.Events.{IsOfKind}
use Rattle.sync_model.specs.State.{MirrorState}
use Rattle.sync_model.specs.Change.{is_idle}
use Rattle.sync_model.specs.Drafts.{DraftTick, ready_of, draft_of}
use Rattle.sync_model.proofs.History.{answers_in_kind}
use Rattle.mirror_core.specs.declared.drafts.Committed.{Committed}
use Rattle.mirror_core.specs.declared.drafts.TheConstants.{MOST_DRAFTED}
use Rattle.mirror_core.specs.declared.drafts.Drafted.{Drafted}
use Rattle.mirror_core.specs.declared.drafts.Drafted.TheVariants.{Draft as ADraft, Idle, Wide}
use Rattle.mirror_core.specs.Drafts.{due_len, drafted, IfDraft}
use Rattle.mirror_lock.specs.declared.calls.LockCall.{LockCall}
use Rattle.mirror_lock.specs.declared.calls.LockCall.TheVariants.{Event, Draft, Commit}
use Rattle.mirror_lock.specs.declared.calls.LockReply.{LockReply}
use Rattle.mirror_lock.specs.declared.calls.LockReply.TheVariants.{Event as ToEvent, Draft as ToDraft, Commit as ToCommit}
use Rattle.mirror_lock.specs.Locked.{mirror_rules, FitsLocked}
use Rattle.turn_lock.specs.declared.history.Entry.{Entry}
use Rattle.turn_lock.specs.declared.view.View.{View}
use Rattle.turn_lock.specs.Histories.{value, entry, own}
use Rattle.turn_lock.specs.Views.{number_of, seen_of, FitsSeat}
use Rattle.turn_lock.specs.Calls.{IsCall}
use Rattle.turn_lock.proofs.Serving.{own_after_call, reply_is_said}
use Rattle.copy_workers.specs.declared.post.Asked.{Asked}
use Rattle.copy_workers.specs.declared.post.TrailMark.{TrailMark}
use Rattle.copy_workers.specs.Trail.{draft_in, draw_of, IsDrawn, commit_mark, commit_asked}
use Rattle.race_hall.specs.Posting.{event_told, draft_told, asked_in, marks_in, pairs_in, last_drawn, asked_by, trail_by, drawn_by, IsReadied}

module _ {W : Type 0} (game : GameRules W) where
  drawn-last : (log : List (Entry (LockCall W) (LockReply W))) (e : Entry (LockCall W) (LockReply W)) → last_drawn (log ++ e ∷ []) ≡ draft_in (draft_told e.reply)
  unfolding last_drawn
  drawn-last [] e = refl
  drawn-last (f ∷ []) e = refl
  drawn-last (f ∷ g ∷ log) e = drawn-last (g ∷ log) e

  pub drawn-more :
      (v w : View (MirrorState W) (LockCall W) (LockReply W)) (q : LockCall W) (r : LockReply W) → IsCall (mirror_rules game) v q r w
      → drawn_by w ≡ draft_in (draft_told r)
  drawn-more v w q r call =
      ap (λ (l : List (Entry (LockCall W) (LockReply W))). last_drawn l) (own_after_call (mirror_rules game) v w q r call)
      ∙ drawn-last (own (number_of v) (seen_of v)) (entry (number_of v) q r)

  -- an event is answered in its kind, and a draft that is answered is of the copy
  pub kind-told :
      (v w : View (MirrorState W) (LockCall W) (LockReply W)) (e : AnEvent) (r : Reply) → is_some v.opening ≡ true → IsCall (mirror_rules game) v (Event e) (ToEvent r) w
      → IsOfKind e r
  kind-told v w e r opened call =
      let said = reply_is_said (mirror_rules game) v w (Event e) (ToEvent r) opened call in
      subst (IsOfKind e) (sym (ap (λ (x : LockReply W). event_told x) said.1)) (answers_in_kind said.0 e)

  drafted-copy : (s : MirrorState W) (c : ℕ) → IfDraft (drafted game s c) (λ d. d.copy ≡ c)
  drafted-copy s c =
      elim (is_idle s c) as (λ v. IfDraft (cond v Idle (cond (nat_lt MOST_DRAFTED (due_len s c)) (Wide (due_len s c)) (ADraft (draft_of game s c)))) (λ d. d.copy ≡ c)) [
        | true ↦ tt
        | false ↦ elim (nat_lt MOST_DRAFTED (due_len s c)) as (λ v. IfDraft (cond v (Wide (due_len s c)) (ADraft (draft_of game s c))) (λ d. d.copy ≡ c)) [ true ↦ tt | false ↦ refl ]
      ]

  -- where a copy's step fits a seat, so does its draft
  pub draft-fits : (v : View (MirrorState W) (LockCall W) (LockReply W)) (c n : ℕ) → FitsSeat (mirror_rules game) v (Event (Step c)) → FitsSeat (mirror_rules game) v (Draft c n)
  draft-fits v c n fits = by_opening v.opening fits
    where
      by_opening : (x : Option (MirrorState W)) → IfSome x (λ o. FitsLocked game (value (mirror_rules game) o (seen_of v)) (Event (Step c)))
          → IfSome x (λ o. FitsLocked game (value (mirror_rules game) o (seen_of v)) (Draft c n))
      by_opening None h = tt
      by_opening (Some o) h = (h.0, h.1.1)

  -- what a draft's answer tells of the draft at the post
  drawn-is : (c : ℕ) (d : Drafted W) (drawn : Option (DraftTick W)) → drawn ≡ draft_in d → IfDraft d (λ t. t.copy ≡ c) → IsDrawn c (draw_of d) drawn
  drawn-is c (ADraft t) drawn is copy = (t, is, copy)
  drawn-is c Idle drawn is copy = is
  drawn-is c (Wide due) drawn is copy = is

  pub drawn-told :
      (v w : View (MirrorState W) (LockCall W) (LockReply W)) (c n : ℕ) (r : LockReply W) → is_some v.opening ≡ true → IsCall (mirror_rules game) v (Draft c n) r w
      → IsDrawn c (draw_of (draft_told r)) (drawn_by w)
  drawn-told v w c n r opened call =
      let said = reply_is_said (mirror_rules game) v w (Draft c n) r opened call in
      subst (λ (x : LockReply W). IsDrawn c (draw_of (draft_told x)) (drawn_by w)) (sym said.1)
      (drawn-is c (drafted game said.0 c) (drawn_by w) (drawn-more v w (Draft c n) r call ∙ ap (λ (x : LockReply W). draft_in (draft_told x)) said.1) (drafted-copy said.0 c))

  -- where no draft was answered last, none waits to be committed
  pub readied-bare : (reply : LockReply W) (v : View (MirrorState W) (LockCall W) (LockReply W)) → drawn_by v ≡ None → IsReadied game reply v
  readied-bare reply v none d some = absurd (let k = sym none ∙ some in cc)

  -- the draft that was answered last may be committed
  pub readied-draft :
      (v w : View (MirrorState W) (LockCall W) (LockReply W)) (c n : ℕ) (r : LockReply W) (a : Drafted W) → IsCall (mirror_rules game) v (Draft c n) r w → r ≡ ToDraft a
      → IfDraft a (λ d. FitsSeat (mirror_rules game) w (Commit (ready_of game d))) → IsReadied game r w
  readied-draft v w c n r a call told ready d some =
      by a told (sym (drawn-more v w (Draft c n) r call ∙ ap (λ (x : LockReply W). draft_in (draft_told x)) told) ∙ some) ready
    where
      inner : (x y : DraftTick W) → Some x ≡ Some y → x ≡ y
      inner x y e = cc

      by : (x : Drafted W) → r ≡ ToDraft x → draft_in x ≡ Some d → IfDraft x (λ t. FitsSeat (mirror_rules game) w (Commit (ready_of game t)))
          → (r ≡ ToDraft (ADraft d)) × FitsSeat (mirror_rules game) w (Commit (ready_of game d))
      by (ADraft t) is e h =
          subst (λ (u : DraftTick W). (r ≡ ToDraft (ADraft u)) × FitsSeat (mirror_rules game) w (Commit (ready_of game u))) (inner t d e) (is, h)
      by Idle is e h = absurd cc
      by (Wide due) is e h = absurd cc

  -- what a call leaves on the trail
  pub trail-more :
      (v w : View (MirrorState W) (LockCall W) (LockReply W)) (q : LockCall W) (r : LockReply W) → IsCall (mirror_rules game) v q r w
      → trail_by w ≡ trail_by v ++ marks_in q r
  trail-more v w q r call =
      ap (λ (l : List (Entry (LockCall W) (LockReply W))). flat_map (λ e. marks_in e.call e.reply) l) (own_after_call (mirror_rules game) v w q r call)
      ∙ flat_map-append (λ e. marks_in e.call e.reply) (own (number_of v) (seen_of v)) (entry (number_of v) q r ∷ [])
      ∙ ap (λ (l : List TrailMark). trail_by v ++ l) (append-nil (marks_in q r))

  -- what the commit of a draft leaves on the trail, and among what was asked
  pub trail-commit :
      (v w : View (MirrorState W) (LockCall W) (LockReply W)) (q : LockCall W) (d : DraftTick W) (told : Committed) → q ≡ Commit (ready_of game d)
      → IsCall (mirror_rules game) v q (ToCommit told) w → trail_by w ≡ trail_by v ++ commit_mark d.copy told ∷ []
  trail-commit v w q d told is call =
      trail-more v w q (ToCommit told) call ∙ ap (λ (x : LockCall W). trail_by v ++ marks_in x (ToCommit told)) is

  pub asked-commit :
      (v w : View (MirrorState W) (LockCall W) (LockReply W)) (q : LockCall W) (d : DraftTick W) (told : Committed) → q ≡ Commit (ready_of game d)
      → IsCall (mirror_rules game) v q (ToCommit told) w → asked_by w ≡ asked_by v ++ commit_asked d.copy told
  asked-commit v w q d told is call =
      ap (λ (l : List (Entry (LockCall W) (LockReply W))). pairs_in l) (own_after_call (mirror_rules game) v w q (ToCommit told) call)
      ∙ flat_map-append (λ e. asked_in e.call e.reply) (own (number_of v) (seen_of v)) (entry (number_of v) q (ToCommit told) ∷ [])
      ∙ ap (λ (x : LockCall W). asked_by v ++ (asked_in x (ToCommit told) ++ [])) is
      ∙ ap (λ (l : List Asked). asked_by v ++ l) (append-nil (commit_asked d.copy told))
