-- What is handed over of a slot, and what is answered where a snapshot is to be put.
use Rattle.std.specs.Prelude.{ℕ, nat_lt, if◌then◌else◌, List, [], ◌∷◌}
use Rattle.peer_model.specs.Queue.{Queue, have_of, trimmed}
use Rattle.peer_packet.specs.Snapshot as snapshot
use Rattle.peer_calls.specs.declared.answers.SnapshotAnswer.{SnapshotAnswer}
use Rattle.peer_calls.specs.declared.answers.SnapshotAnswer.TheVariants.{TooShort, Put}
use Rattle.peer_calls.specs.Handing.{queue_handed}

-- the queue of a slot, where it has issued
abbrev pub handed_of : ℕ → Queue → List snapshot.Queue
handed_of from q = if nat_lt 0 (have_of q) then queue_handed (trimmed from q) ∷ [] else []

-- it was put, of so many bytes
abbrev pub IfPut : SnapshotAnswer → (ℕ → Type 0) → Type 0
IfPut (TooShort size) so = Unit {0}
IfPut (Put size) so = so size

-- or there is no room for it
abbrev pub IfTooShort : SnapshotAnswer → Type 0 → Type 0
IfTooShort (TooShort size) so = so
IfTooShort (Put size) so = Unit {0}
