-- What a packet for another peer is put from, slot by slot.
use Rattle.std.specs.Prelude.{◌≡◌, ℕ, ◌<◌, ◌+◌, ◌^◌, length, ◌==◌, Option, Some, None, if◌then◌else◌, List, [], map}
use Rattle.std.specs.List.{range_with_len, flat_map}
use Rattle.peer_model.specs.Queue.{Queue, TimesRise, have_of, last_time}
use Rattle.peer_model.specs.Due.{due_from, listed}
use Rattle.peer_packet.specs.declared.cursor.Cursor.{Cursor}
use Rattle.peer_packet.specs.declared.filling.Piece.{Piece}
use Rattle.peer_packet.specs.Packet.{Sent, Part}
use Rattle.peer_packet.specs.Filling.{behind_cursor}
use Rattle.peer_calls.specs.declared.config.Config.{Config}
use Rattle.peer_calls.specs.State.{State, clock_now}
use Rattle.peer_slots.specs.Links.{LinkLists, links_of}
use Rattle.peer_slots.specs.Queues.{QueueLists, queues_of}
use Rattle.peer_calls.specs.Wire.{as_sent}
use Rattle.peer_calls.specs.Sending.{span_part}

-- who makes it and for whom, of how many slots; at which clock, and from how many ticks on another's command is passed
-- on; the queues, and how many commands of each slot the other one is known to have
pub record Supply : Type 0 where
  pub me : ℕ
  pub to : ℕ
  pub slots : ℕ
  pub clock : ℕ
  pub relay : ℕ
  pub queues : ℕ → Queue
  pub known : ℕ → ℕ

-- the same as it is kept
pub record SupplyLists : Type 0 where
  pub me : ℕ
  pub to : ℕ
  pub clock : ℕ
  pub relay : ℕ
  pub queues : QueueLists
  pub links : LinkLists

abbrev pub supply_of : SupplyLists → Supply
supply_of l = record {
  me = l.me;
  to = l.to;
  slots = (queues_of l.queues).slots;
  clock = l.clock;
  relay = l.relay;
  queues = (queues_of l.queues).queues;
  known = (links_of l.links).known l.to;
}

-- what is always true of it: the other one is of the session
pub record IsSupply (l : SupplyLists) : Type 0 where
  pub there : l.to < (queues_of l.queues).slots
  pub same : (links_of l.links).slots ≡ (queues_of l.queues).slots

-- what is always true of a queue: numbers, times and counts are those of a session, and times never fall
pub record IsLegal (q : Queue) : Type 0 where
  pub few : length q.commands < 2 ^ 16
  pub numbers : have_of q < 2 ^ 32
  pub rising : TimesRise q.gone q.commands
  pub times : last_time q.gone q.commands < 2 ^ 32
  pub nothing_gone : q.kept ≡ 0 → q.gone ≡ 0

-- what a peer's state has of it
abbrev pub supply_in : {W : Type 0} → Config → ℕ → State W → Supply
supply_in c to s = record {
  me = s.me;
  to = to;
  slots = c.terms.slots;
  clock = clock_now s;
  relay = c.relay;
  queues = s.queues;
  known = s.known to;
}

-- the commands of a slot, as packets carry them
abbrev pub sent_at : Supply → ℕ → List Sent
sent_at s o = map as_sent (s.queues o).commands

-- how many parts and commands a piece is
abbrev pub piece_weight : Option Piece → ℕ
piece_weight None = 0
piece_weight (Some x) = 1 + x.count

-- the part that is due of a slot, where one is
abbrev pub due_at : Supply → ℕ → List Part
due_at s o =
    map (span_part s.queues) (if o == s.to then [] else listed (due_from s.me s.relay o s.queues s.known s.clock))

-- all that is due
abbrev pub all_due : Supply → List Part
all_due s = flat_map (due_at s) (range_with_len 0 s.slots)

-- what waits of it behind a cursor
abbrev pub waiting : Cursor → Supply → List Part
waiting c s = behind_cursor c (all_due s)
