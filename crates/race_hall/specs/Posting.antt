-- What was asked through a seat of a mirror's lock.
use Rattle.std.specs.Prelude.{◌≡◌, Option, None, Some, List, [], ◌∷◌, flat_map}
use Rattle.atomic_table.specs.declared.shared.Seat.{Seat}
use Rattle.game_trait.specs.Game.{Rules as GameRules}
use Rattle.game_trait.specs.declared.event.Reply.{Reply}
use Rattle.game_trait.specs.declared.event.Reply.TheVariants.{Restaggered}
use Rattle.sync_model.specs.State.{MirrorState}
use Rattle.sync_model.specs.Drafts.{DraftTick, ready_of}
use Rattle.mirror_core.specs.declared.drafts.Committed.{Committed}
use Rattle.mirror_core.specs.declared.drafts.Committed.TheVariants.{Stale}
use Rattle.mirror_core.specs.declared.drafts.Drafted.{Drafted}
use Rattle.mirror_core.specs.declared.drafts.Drafted.TheVariants.{Draft as ADraft, Idle}
use Rattle.mirror_lock.specs.declared.calls.LockCall.{LockCall}
use Rattle.mirror_lock.specs.declared.calls.LockCall.TheVariants.{Event, Draft, Commit}
use Rattle.mirror_lock.specs.declared.calls.LockReply.{LockReply}
use Rattle.mirror_lock.specs.declared.calls.LockReply.TheVariants.{Event as ToEvent, Draft as ToDraft, Commit as ToCommit}
use Rattle.mirror_lock.specs.Locked.{mirror_rules}
use Rattle.turn_lock.specs.declared.history.Entry.{Entry}
use Rattle.turn_lock.specs.declared.view.View.{View}
use Rattle.turn_lock.specs.Histories.{own}
use Rattle.turn_lock.specs.Views.{view, number_of, seen_of, FitsSeat}
use Rattle.copy_workers.specs.declared.post.Asked.{Asked}
use Rattle.copy_workers.specs.declared.post.TrailMark.{TrailMark}
use Rattle.copy_workers.specs.declared.post.TrailMark.TheVariants.{Asked as AskedMark}
use Rattle.copy_workers.specs.Asking.{pair_of}
use Rattle.copy_workers.specs.Trail.{draft_in, draft_marks, commit_mark, commit_asked}

module _ {W : Type 0} where
  -- what a lock replied to an event; to a call of another kind it doesn't matter
  abbrev pub event_told : LockReply W → Reply
  event_told (ToEvent reply) = reply
  event_told (ToDraft drafted) = Restaggered
  event_told (ToCommit committed) = Restaggered

  -- what it replied to a draft
  abbrev pub draft_told : LockReply W → Drafted W
  draft_told (ToEvent reply) = Idle
  draft_told (ToDraft drafted) = drafted
  draft_told (ToCommit committed) = Idle

  -- what it replied to a commit
  abbrev pub commit_told : LockReply W → Committed
  commit_told (ToEvent reply) = Stale 0 0
  commit_told (ToDraft drafted) = Stale 0 0
  commit_told (ToCommit committed) = committed

  -- what was asked by a call: an event, or the step that a commit stands for
  abbrev pub asked_in : LockCall W → LockReply W → List Asked
  asked_in (Event e) reply = pair_of e (event_told reply) ∷ []
  asked_in (Draft c times) reply = []
  asked_in (Commit r) reply = commit_asked r.copy (commit_told reply)

  -- the marks of a call
  abbrev pub marks_in : LockCall W → LockReply W → List TrailMark
  marks_in (Event e) reply = AskedMark ∷ []
  marks_in (Draft c times) reply = draft_marks c times (draft_told reply)
  marks_in (Commit r) reply = commit_mark r.copy (commit_told reply) ∷ []

  -- the draft that the last of some calls answered
  unfoldable pub last_drawn : List (Entry (LockCall W) (LockReply W)) → Option (DraftTick W)
  last_drawn [] = None
  last_drawn (e ∷ []) = draft_in (draft_told e.reply)
  last_drawn (e ∷ f ∷ log) = last_drawn (f ∷ log)

  -- what was asked in a lock's history
  abbrev pub pairs_in : List (Entry (LockCall W) (LockReply W)) → List Asked
  pairs_in log = flat_map (λ e. asked_in e.call e.reply) log

  -- what was asked through a seat with this view, by its own entries in what it has seen
  abbrev pub asked_by : View (MirrorState W) (LockCall W) (LockReply W) → List Asked
  asked_by v = pairs_in (own (number_of v) (seen_of v))

  -- the marks of these calls
  abbrev pub trail_by : View (MirrorState W) (LockCall W) (LockReply W) → List TrailMark
  trail_by v = flat_map (λ e. marks_in e.call e.reply) (own (number_of v) (seen_of v))

  -- the draft that the last of them answered
  abbrev pub drawn_by : View (MirrorState W) (LockCall W) (LockReply W) → Option (DraftTick W)
  drawn_by v = last_drawn (own (number_of v) (seen_of v))

  -- that draft is this answer, and may be committed, once it is run
  abbrev pub IsReadied : GameRules W → LockReply W
      → View (MirrorState W) (LockCall W) (LockReply W) → Type 0
  IsReadied game reply v = (d : DraftTick W) → drawn_by v ≡ Some d
      → (reply ≡ ToDraft (ADraft d)) × FitsSeat (mirror_rules game) v (Commit (ready_of game d))

-- the second is the same seat of the same lock, later
pub record SameSeat {S H C R : Type 0} (first now : Seat S (View H C R)) : Type 0 where
  pub table : now.table_id ≡ first.table_id
  pub number : number_of (view now) ≡ number_of (view first)

-- what is the same seat as the first stays so
abbrev pub StaysSame : {X S H C R : Type 0} → (X → Seat S (View H C R)) → X → X → Type 0
StaysSame {X} seat_of before after = (p : X) → SameSeat (seat_of p) (seat_of before)
    → SameSeat (seat_of p) (seat_of after)
