-- What views show.
use Rattle.std.specs.Prelude.{List, [], ◌∷◌, ◌≡◌, Option, Some, None}
use Rattle.peer_packet.specs.declared.part.SentView.{SentView}
use Rattle.peer_packet.specs.Packet.{Sent}

abbrev pub sent_seen : SentView → Sent
sent_seen v = record { time = v.time; payload = v.payload.now }

-- what a walk over commands answers, and what it leaves
abbrev pub IsNextSent : Option SentView → List Sent → List Sent → Type 0
IsNextSent None old new = (old ≡ []) × (new ≡ [])
IsNextSent (Some v) old new = old ≡ sent_seen v ∷ new
