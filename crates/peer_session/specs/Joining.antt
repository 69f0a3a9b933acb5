-- What joining by bytes answers.
use Rattle.std.specs.Prelude.{◌≡◌, ℕ, Result, Ok, Err, Some, None, List}
use Rattle.sync_model.specs.Schedule.{Schedule, ticks_of_first}
use Rattle.peer_packet.specs.Snapshot as snapshot
use Rattle.peer_calls.specs.declared.config.Config.{Config}
use Rattle.peer_calls.specs.Handing.{join_refused, joined_state}
use Rattle.peer_session.specs.declared.joining.JoinError.{JoinError}
use Rattle.peer_session.specs.declared.joining.JoinError.TheVariants.{Fault, Refused, NoMemory}
use Rattle.peer_session.specs.Parts.{PeerParts, state_of}

-- by a snapshot of the session: the peer that joins, or the first reason not to, or want of memory
abbrev pub IsJoining :
    {W : Type 0} → W → Config → ℕ → List Schedule → snapshot.Snapshot → Result (PeerParts W) JoinError → Type 0
IsJoining world c me plans snap (Ok p) =
    (join_refused c me (ticks_of_first plans) snap ≡ None) × (state_of p ≡ joined_state world c me plans snap)
IsJoining world c me plans snap (Err (Fault fault)) = ⊥
IsJoining world c me plans snap (Err (Refused reason)) = join_refused c me (ticks_of_first plans) snap ≡ Some reason
IsJoining world c me plans snap (Err NoMemory) = join_refused c me (ticks_of_first plans) snap ≡ None

-- the bytes are those of a snapshot of the session
abbrev pub AreBytesOf : Config → List ℕ → snapshot.Snapshot → Type 0
AreBytesOf c bytes snap =
    snapshot.IsSnapshot c.terms snap × (bytes ≡ snapshot.snapshot_bytes c.terms snap)

-- an error tells of the bytes that they are no snapshot, with the first fault, or that they are one by which it may not
-- join, with the first reason; memory is wanted for one by which it may
abbrev pub IsRefusal : Config → ℕ → List Schedule → List ℕ → JoinError → Type 0
IsRefusal c me plans bytes (Fault fault) = snapshot.snapshot_at c.terms bytes ≡ Err fault
IsRefusal c me plans bytes (Refused reason) =
    (snap : snapshot.Snapshot) × AreBytesOf c bytes snap
    × (join_refused c me (ticks_of_first plans) snap ≡ Some reason)
IsRefusal c me plans bytes NoMemory =
    (snap : snapshot.Snapshot) × AreBytesOf c bytes snap
    × (join_refused c me (ticks_of_first plans) snap ≡ None)
