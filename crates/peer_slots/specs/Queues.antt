-- The queues of all slots.
use Rattle.std.specs.Prelude.{ℕ, ◌^◌, ◌<◌, ◌≤◌, ◌≡◌, Bool, if◌then◌else◌, Option, Some, None, List, length, slice_index_or}
use Rattle.std.specs.List.{AllByRecursion, list_any}
use Rattle.rolling_mirror.specs.Rolling.{RollState}
use Rattle.peer_model.specs.Queue.{Queue, Part, new_queue, trimmed, conflicts}
use Rattle.peer_model.specs.Peer.{put}
use Rattle.peer_window.specs.Window.{RollPeer}
use Rattle.peer_packet.specs.Packet.{AreParts, is_part}
use Rattle.peer_packet.specs.Packet as wire
use Rattle.peer_calls.specs.Hearing.{conflicting}
use Rattle.peer_queue.specs.Room.{QueueInRoom}

-- by slot, as `State` of `peer_calls` has them; and for how many commands each has room
pub record QueueState : Type 0 where
  pub slots : ℕ
  pub room : ℕ
  pub queues : ℕ → Queue

-- the same as they are kept: a list of slots
pub record QueueLists : Type 0 where
  pub list : List QueueInRoom
  pub room : ℕ

-- a queue before anything was heard
abbrev pub empty_queue : ℕ → QueueInRoom
empty_queue room = record { queue = new_queue; room = room }

-- the queue of a slot; of slots that there aren't nothing was heard
abbrev pub queue_at : QueueLists → ℕ → QueueInRoom
queue_at q o = slice_index_or q.list o (empty_queue q.room)

abbrev pub queues_of : QueueLists → QueueState
queues_of q = record {
  slots = length q.list;
  room = q.room;
  queues = λ o. (queue_at q o).queue;
}

-- what is always true of them
pub record AreQueues (q : QueueLists) : Type 0 where
  pub slots : length q.list ≤ 64
  pub rooms : (o : ℕ) → (queue_at q o).room ≡ q.room

-- ---- what changes

-- before anything was heard
abbrev pub new_queues : ℕ → ℕ → QueueState
new_queues slots room = record { slots = slots; room = room; queues = λ o. new_queue }

abbrev pub with_queue : ℕ → Queue → QueueState → QueueState
with_queue o q s = record s { queues = put o q s.queues }

-- what is due before a tick is forgotten
abbrev pub all_trimmed : ℕ → QueueState → QueueState
all_trimmed bound s = record s { queues = λ o. trimmed bound (s.queues o) }

-- a queue with what is due before a tick forgotten
abbrev pub trimmed_in_room : ℕ → QueueInRoom → QueueInRoom
trimmed_in_room bound q = record q { queue = trimmed bound q.queue }

-- ---- parts of a packet

-- parts of a packet of a session of so many slots, of slots from `least` on
pub record ArePartsFrom (slots least : ℕ) (parts : List wire.Part) : Type 0 where
  pub to : ℕ
  pub payload : ℕ
  pub have : List ℕ
  pub short : payload ≤ 64
  pub counts : AllByRecursion (λ n. n < 2 ^ 32) have
  pub rise : AreParts (is_part slots to have) payload least parts

abbrev pub any_conflicts : List Part → (ℕ → Queue) → Bool
any_conflicts parts queues = list_any (λ part. conflicts part (queues part.origin)) parts

-- the slot of the first part that conflicts
abbrev pub first_conflict : List Part → (ℕ → Queue) → Option ℕ
first_conflict parts queues =
    if any_conflicts parts queues then Some (conflicting parts queues) else None

-- what `peer_window` sees of a peer
abbrev pub window_at : {W : Type 0} → (ℕ → Queue) → (ℕ → ℕ → ℕ) → (ℕ → ℕ) → RollState W → RollPeer W
window_at queues known heard roll = record {
  queues = queues;
  known = known;
  heard = heard;
  roll = roll;
}
