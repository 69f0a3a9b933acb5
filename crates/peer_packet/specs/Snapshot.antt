-- What a snapshot is, its bytes, and its reading.
use Rattle.std.specs.Prelude.{Bool, Err, List, Ok, Result, [], length, if◌then◌else◌, nat_le, nat_lt, suc, true, zero, ℕ, ◌&&◌, ◌+◌, ◌++◌, ◌<◌, ◌==◌, ◌^◌, ◌∷◌, ◌≡◌, ◌≤◌}
use Rattle.std.specs.Int.{to_le_bytes, w16, w32, w64}
use Rattle.std.specs.List.{AllByRecursion, flat_map}
use Rattle.tss_io.specs.Results.{◌>>=◌}
use Rattle.peer_packet.specs.declared.fault.Fault.{Fault}
use Rattle.peer_packet.specs.declared.fault.Fault.TheVariants as faults
use Rattle.peer_packet.specs.declared.snapshot.Opening.{Opening}
use Rattle.peer_packet.specs.declared.snapshot.QueueHead.{QueueHead}
use Rattle.peer_packet.specs.declared.terms.Terms.{Terms}
use Rattle.peer_packet.specs.Packet.{Sent, sent_bytes, vector_bytes, AreSent}
use Rattle.peer_packet.specs.Reading.{byte_at, number_at, check, sents_at, vector_at, or_none}

-- what is handed over of a slot's queue: how many of its commands were late, the tick that the one
-- before is due at, and its commands
pub record Queue : Type 0 where
  pub late : ℕ
  pub before : ℕ
  pub commands : List Sent

-- whose it is, its last copy's clock and its own, the counts of all slots, and the queues of those
-- that have issued, in their order
pub record Snapshot : Type 0 where
  pub maker : ℕ
  pub base : ℕ
  pub clock : ℕ
  pub have : List ℕ
  pub queues : List Queue

-- the counts of the slots that have issued
abbrev pub issued : List ℕ → List ℕ
issued [] = []
issued (n ∷ ns) = if nat_lt 0 n then n ∷ issued ns else issued ns

abbrev pub queue_head : Queue → QueueHead
queue_head q = record { late = q.late; count = length q.commands; before = q.before }

abbrev pub queue_head_bytes : QueueHead → List ℕ
queue_head_bytes h = to_le_bytes w32 h.late ++ (to_le_bytes w16 h.count ++ to_le_bytes w32 h.before)

abbrev pub queue_bytes : Queue → List ℕ
queue_bytes q = queue_head_bytes (queue_head q) ++ flat_map sent_bytes q.commands

abbrev pub opening_bytes : Terms → Opening → List ℕ
opening_bytes terms o =
    2 ∷ to_le_bytes w64 terms.session
    ++ (terms.slots ∷ terms.payload ∷ o.maker ∷ to_le_bytes w32 o.base ++ to_le_bytes w32 o.clock)

abbrev pub opening_of : Snapshot → Opening
opening_of s = record { maker = s.maker; base = s.base; clock = s.clock }

-- the one text of a snapshot of a session
abbrev pub snapshot_bytes : Terms → Snapshot → List ℕ
snapshot_bytes terms s =
    opening_bytes terms (opening_of s) ++ (vector_bytes s.have ++ flat_map queue_bytes s.queues)

-- a queue of a slot with so many commands may begin so
unfoldable pub is_queue : ℕ → ℕ → QueueHead → Bool
is_queue base n h =
    nat_le (h.late + h.count) n
    && (if h.count == n then h.before == 0 else nat_lt h.before base)

pub record IsQueue (payload base n : ℕ) (q : Queue) : Type 0 where
  pub late : q.late < 2 ^ 32
  pub count : length q.commands < 2 ^ 16
  pub before : q.before < 2 ^ 32
  pub head : is_queue base n (queue_head q) ≡ true
  pub commands : AreSent payload base q.commands

-- a queue for each of these counts
abbrev pub AreQueues : ℕ → ℕ → List ℕ → List Queue → Type 0
AreQueues payload base [] [] = Unit {0}
AreQueues payload base (n ∷ ns) (q ∷ qs) = IsQueue payload base n q × AreQueues payload base ns qs
AreQueues payload base [] (q ∷ qs) = ⊥
AreQueues payload base (n ∷ ns) [] = ⊥

-- a snapshot of a session
pub record IsSnapshot (terms : Terms) (s : Snapshot) : Type 0 where
  pub maker : nat_lt s.maker terms.slots ≡ true
  pub base : s.base < 2 ^ 32
  pub clock : s.clock < 2 ^ 32
  pub ahead : nat_le s.base s.clock ≡ true
  pub slots : length s.have ≡ terms.slots
  pub counts : AllByRecursion (λ n. n < 2 ^ 32) s.have
  pub queues : AreQueues terms.payload s.base (issued s.have) s.queues

-- ---- reading

unfoldable pub queue_head_at : List ℕ → Result (QueueHead × List ℕ) Fault
queue_head_at bytes = do
  late ← number_at w32 faults.Part bytes
  count ← number_at w16 faults.Part late.1
  before ← number_at w32 faults.Part count.1
  Ok (record { late = late.0; count = count.0; before = before.0 }, before.1)

unfoldable pub queue_at : ℕ → ℕ → ℕ → List ℕ → Result (Queue × List ℕ) Fault
queue_at payload base n bytes = do
  head ← queue_head_at bytes
  right ← check (is_queue base n head.0) faults.Part
  commands ← sents_at payload head.0.count base head.1
  Ok (record { late = head.0.late; before = head.0.before; commands = commands.0 }, commands.1)

unfoldable pub queues_at : ℕ → ℕ → List ℕ → List ℕ → Result (List Queue × List ℕ) Fault
queues_at payload base [] bytes = Ok ([], bytes)
queues_at payload base (n ∷ ns) bytes = do
  q ← queue_at payload base n bytes
  more ← queues_at payload base ns q.1
  Ok (q.0 ∷ more.0, more.1)

-- a queue, read by nothing but its lengths
unfoldable pub any_queue_at : ℕ → List ℕ → Result (Queue × List ℕ) Fault
any_queue_at base bytes = do
  head ← queue_head_at bytes
  commands ← sents_at 255 head.0.count base head.1
  Ok (record { late = head.0.late; before = head.0.before; commands = commands.0 }, commands.1)

-- queues to the end, at most so many
unfoldable pub any_queues_at : ℕ → ℕ → List ℕ → Result (List Queue) Fault
any_queues_at base zero [] = Ok []
any_queues_at base zero (b ∷ bytes) = Err faults.Rest
any_queues_at base (suc most) [] = Ok []
any_queues_at base (suc most) (b ∷ bytes) = do
  q ← any_queue_at base (b ∷ bytes)
  more ← any_queues_at base most q.1
  Ok (q.0 ∷ more)

-- queues whose bytes these are
unfoldable pub plain_queues : ℕ → List ℕ → Result (List Queue) Fault
plain_queues base bytes = any_queues_at base 64 bytes

abbrev pub queues_in : ℕ → List ℕ → List Queue
queues_in base bytes = or_none (plain_queues base bytes)

-- what always holds of a snapshot over its bytes
pub record AreShown (base : ℕ) (have queues : List ℕ) : Type 0 where
  pub few : length have ≤ 64
  pub plain : plain_queues base queues ≡ Ok (queues_in base queues)
  pub bytes : queues ≡ flat_map queue_bytes (queues_in base queues)

unfoldable pub opening_at : Terms → List ℕ → Result (Opening × List ℕ) Fault
opening_at terms bytes = do
  kind ← byte_at faults.Kind bytes
  right ← check (kind.0 == 2) faults.Kind
  session ← number_at w64 faults.Session kind.1
  slots ← byte_at faults.Session session.1
  payload ← byte_at faults.Session slots.1
  ours ← check (session.0 == terms.session && (slots.0 == terms.slots && payload.0 == terms.payload)) faults.OtherSession
  maker ← byte_at faults.Ends payload.1
  ends ← check (nat_lt maker.0 terms.slots) faults.Ends
  base ← number_at w32 faults.Head maker.1
  clock ← number_at w32 faults.Head base.1
  ahead ← check (nat_le base.0 clock.0) faults.Head
  Ok (record { maker = maker.0; base = base.0; clock = clock.0 }, clock.1)

unfoldable pub snapshot_at : Terms → List ℕ → Result Snapshot Fault
snapshot_at terms bytes = do
  opening ← opening_at terms bytes
  have ← vector_at terms.slots opening.1
  queues ← queues_at terms.payload opening.0.base (issued have.0) have.1
  ended ← check (length queues.1 == 0) faults.Rest
  Ok (record {
    maker = opening.0.maker;
    base = opening.0.base;
    clock = opening.0.clock;
    have = have.0;
    queues = queues.0;
  })
