-- Queues out of a snapshot.
use Rattle.std.specs.Prelude.{◌≡◌, ℕ, ◌≤◌, false, nat_lt, if◌then◌else◌, List, [], ◌∷◌, drop, length}
use Rattle.std.specs.List.{list_any}
use Rattle.peer_model.specs.Queue.{Queue, new_queue}
use Rattle.peer_packet.specs.Packet.{AreTerms}
use Rattle.peer_packet.specs.Snapshot.{AreQueues, IsSnapshot, issued}
use Rattle.peer_packet.specs.Snapshot as snapshot
use Rattle.peer_packet.specs.declared.terms.Terms.{Terms}
use Rattle.peer_calls.specs.Handing.{first_taken}
use Rattle.peer_queue.specs.Room.{QueueInRoom, IsHandedOver}

-- a snapshot that was read by some session's terms
abbrev pub IsOfSession : snapshot.Snapshot → Type 0
IsOfSession snap = (terms : Terms) × AreTerms terms × IsSnapshot terms snap

-- a slot with so many commands takes the first queue where it has issued, and leaves the rest to those behind it
abbrev pub next_taken : ℕ → List snapshot.Queue → Queue
next_taken have qs = if nat_lt 0 have then first_taken have qs else new_queue

abbrev pub left_behind : ℕ → List snapshot.Queue → List snapshot.Queue
left_behind have qs = if nat_lt 0 have then drop 1 qs else qs

-- the queues of slots with so many commands, each with room for as many
unfoldable pub all_taken : ℕ → List ℕ → List snapshot.Queue → List QueueInRoom
all_taken room [] qs = []
all_taken room (n ∷ ns) qs = record { queue = next_taken n qs; room = room } ∷ all_taken room ns (left_behind n qs)

-- a queue of a slot with so many commands comes first, and there is room for it
abbrev pub IsNextHanded : ℕ → ℕ → List snapshot.Queue → Type 0
IsNextHanded room have [] = ⊥
IsNextHanded room have (q ∷ qs) = IsHandedOver have q × (length q.commands ≤ room)

-- queues of slots with so many commands, of which some session's snapshot may be, and there is room for each
pub record AreHanded (room : ℕ) (have : List ℕ) (qs : List snapshot.Queue) : Type 0 where
  pub payload : ℕ
  pub base : ℕ
  pub short : payload ≤ 64
  pub queues : AreQueues payload base (issued have) qs
  pub few : list_any (λ (q : snapshot.Queue). nat_lt room (length q.commands)) qs ≡ false
