-- The commands of a slot in a room of a fixed size, and what is always true of them.
use Rattle.std.specs.Prelude.{◌≡◌, ℕ, ◌^◌, ◌≤◌, ◌<◌, List, length, map, take}
use Rattle.std.specs.List.{AllByRecursion}
use Rattle.peer_model.specs.Queue.{Sent, Queue, TimesRise, have_of}
use Rattle.peer_window.specs.Window.{Heard}
use Rattle.rolling_mirror.specs.Rolling.{RollState}
use Rattle.peer_packet.specs.Packet as wire
use Rattle.peer_packet.specs.Snapshot as snapshot
use Rattle.peer_calls.specs.Wire.{as_sent}
use Rattle.peer_queue.specs.declared.sent.SentBytes.{SentBytes}

-- a command as it was issued
abbrev pub sent_of : SentBytes → Sent
sent_of x = record { time = x.time; bytes = take x.size x.bytes }

-- a slot's queue, and for how many commands there is room at once
pub record QueueInRoom : Type 0 where
  pub queue : Queue
  pub room : ℕ

-- its bytes are no more than any session allows
abbrev pub IsShort : Sent → Type 0
IsShort x = length x.bytes ≤ 64

-- what is always true: numbers and counts are those of a session, and times never fall
pub record IsInRoom (q : Queue) (room capacity : ℕ) : Type 0 where
  pub few : length q.commands ≤ room
  pub fits : room ≤ capacity
  pub in_reach : room < 2 ^ 16
  pub numbers : have_of q < 2 ^ 32
  pub late : q.late ≤ have_of q
  pub rising : TimesRise q.gone q.commands
  pub short : AllByRecursion IsShort q.commands
  pub nothing_gone : q.kept ≡ 0 → q.gone ≡ 0

-- a queue and the mirror, as a part leaves them
abbrev pub heard_of : {W : Type 0} → QueueInRoom → RollState W → Heard W
heard_of q r = record { queue = q.queue; roll = r }

-- its commands, as packets carry them
abbrev pub commands_of : QueueInRoom → List wire.Sent
commands_of q = map as_sent q.queue.commands

-- a number is remembered
abbrev pub IsKept : ℕ → Queue → Type 0
IsKept number q = (q.kept ≤ number) × (number < have_of q)

-- a queue that a snapshot may have of a slot with so many commands
abbrev pub IsHandedOver : ℕ → snapshot.Queue → Type 0
IsHandedOver have q = (base : ℕ) × snapshot.IsQueue 64 base have q
