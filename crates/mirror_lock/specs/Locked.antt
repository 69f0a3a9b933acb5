-- What a mirror does as the object of a lock.
use Rattle.std.specs.Prelude.{◌≡◌, ◌<◌, Bool, false, length}
use Rattle.game_trait.specs.Game.{Rules as GameRules}
use Rattle.game_trait.specs.Events.{is_arrival, is_restagger}
use Rattle.sync_model.specs.State.{MirrorState}
use Rattle.sync_model.specs.Change.{next, said, Fits}
use Rattle.sync_model.specs.History.{IsReached}
use Rattle.sync_model.specs.Drafts.{FitsReady}
use Rattle.mirror_core.specs.Drafts.{drafted, committed_to, committed}
use Rattle.mirror_lock.specs.declared.calls.LockCall.{LockCall}
use Rattle.mirror_lock.specs.declared.calls.LockCall.TheVariants.{Event, Draft, Commit}
use Rattle.mirror_lock.specs.declared.calls.LockReply.{LockReply}
use Rattle.mirror_lock.specs.declared.calls.LockReply.TheVariants.{Event as ToEvent, Draft as ToDraft, Commit as ToCommit}
use Rattle.turn_lock.specs.declared.view.View.{View}
use Rattle.turn_lock.specs.Rules.{Rules}
use Rattle.turn_lock.specs.Views.{FitsSeat}

-- the state after a call: an event is made, a draft changes nothing, and a commit is the step that
-- it stands for, or nothing
abbrev pub next_locked : {W : Type 0} → MirrorState W → LockCall W → MirrorState W
next_locked s (Event e) = next s e
next_locked s (Draft c times) = s
next_locked s (Commit r) = committed_to s r

-- the reply
abbrev pub said_locked : {W : Type 0} → GameRules W → MirrorState W → LockCall W → LockReply W
said_locked game s (Event e) = ToEvent (said s e)
said_locked game s (Draft c times) = ToDraft (drafted game s c)
said_locked game s (Commit r) = ToCommit (committed s r)

-- a call that may be made: an event that may be made and puts no other plan in force, a draft of a
-- copy that is there, a commit of a ready tick that fits
abbrev pub FitsCall : {W : Type 0} → GameRules W → MirrorState W → LockCall W → Type 0
FitsCall game s (Event e) = (is_restagger e ≡ false) × Fits s e
FitsCall game s (Draft c times) = c < length s.runs
FitsCall game s (Commit r) = FitsReady game s r

-- the same, of a state that its history leads to, as that of every mirror is
abbrev pub FitsLocked : {W : Type 0} → GameRules W → MirrorState W → LockCall W → Type 0
FitsLocked game s q = IsReached s × FitsCall game s q

-- a call that uses up room: an arrival
abbrev pub is_growing : {W : Type 0} → LockCall W → Bool
is_growing (Event e) = is_arrival e
is_growing (Draft c times) = false
is_growing (Commit r) = false

-- a locked mirror, as an object
abbrev pub mirror_rules : {W : Type 0} → GameRules W
    → Rules (MirrorState W) (LockCall W) (LockReply W)
mirror_rules game =
    record {
      next = next_locked;
      said = said_locked game;
      Fits = FitsLocked game;
      spare = λ s. s.spare;
      grows = is_growing;
    }

-- a seat takes every call that fits a mirror
pub record TakesFrom {W : Type 0} (game : GameRules W) (s : MirrorState W)
    (v : View (MirrorState W) (LockCall W) (LockReply W)) : Type 0 where
  pub takes : (call : LockCall W) → FitsCall game s call → FitsSeat (mirror_rules game) v call
