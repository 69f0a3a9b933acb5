-- What the seats of a mirror's lock tell when the lock is closed.
use Rattle.std.specs.Prelude.{◌≡◌, ◌≢◌, ℕ, List, map, flat_map}
use Rattle.std.specs.List.{AllByRecursion}
use Rattle.mirror_lock.specs.declared.calls.LockCall.{LockCall}
use Rattle.mirror_lock.specs.declared.calls.LockReply.{LockReply}
use Rattle.turn_lock.specs.declared.history.Entry.{Entry as LockEntry}
use Rattle.turn_lock.specs.declared.view.View.{View}
use Rattle.turn_lock.specs.Views.{number_of}
use Rattle.sync_model.specs.State.{MirrorState}
use Rattle.copy_workers.specs.declared.post.Asked.{Asked}
use Rattle.race_hall.specs.Entries.{Entry, own, IsStepping}
use Rattle.race_hall.specs.Race.{Course}
use Rattle.race_hall.specs.JobResults.{IsAmong, Closed}
use Rattle.race_hall.specs.Posting.{asked_in, asked_by}

-- the entries of a lock's history: its events, and the steps that its commits stand for
abbrev pub entries_in : {W : Type 0} → List (LockEntry (LockCall W) (LockReply W)) → List Entry
entries_in log =
    flat_map (λ e. map (λ p. record { seat = e.seat; pair = p }) (asked_in e.call e.reply)) log

-- what a seat with this view did: the feeder's asked this, and any other made steps alone
pub record DidAs {W : Type 0} (feeder : ℕ) (asked : List Asked)
    (v : View (MirrorState W) (LockCall W) (LockReply W)) : Type 0 where
  pub fed : number_of v ≡ feeder → asked_by v ≡ asked
  pub stepped : number_of v ≢ feeder → AllByRecursion (λ p. IsStepping p.event) (asked_by v)

-- all seats of a lock came back, the feeder's among them
pub record AllDid {W : Type 0} (feeder : ℕ) (asked : List Asked)
    (views : List (View (MirrorState W) (LockCall W) (LockReply W))) : Type 0 where
  pub each : AllByRecursion (DidAs feeder asked) views
  pub last : View (MirrorState W) (LockCall W) (LockReply W)
  pub there : IsAmong last views
  pub is_feeder : number_of last ≡ feeder

-- a lock was closed, and its history has what the feeder asked
pub record ClosedWith {W : Type 0} (c : Course) (opening : W) (spare feeder : ℕ)
    (asked : List Asked) (s : MirrorState W) : Type 0 where
  pub history : List Entry
  pub closed : Closed c opening spare feeder history s
  pub asked_is : own feeder history ≡ asked
