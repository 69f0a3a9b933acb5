-- What a peer hands to one that joins, and how the joiner begins.
use Rattle.std.specs.Prelude.{ℕ, zero, suc, ◌+◌, ◌-◌, ◌*◌, Bool, not, nat_le, nat_lt, ◌==◌, ◌||◌, if◌then◌else◌, Option, Some, None, List, [], ◌∷◌, ◌++◌, map, filter, drop, length, get_or}
use Rattle.std.specs.List.{range_with_len, list_any}
use Rattle.game_trait.specs.declared.command.Command.{Command}
use Rattle.sync_model.specs.Schedule.{Schedule, ticks_of_first}
use Rattle.rolling_mirror.specs.declared.handed.SessionSnapshot.{SessionSnapshot}
use Rattle.rolling_mirror.specs.Rolling.{last_tick}
use Rattle.rolling_mirror.specs.Snapshot.{opened_at}
use Rattle.peer_model.specs.Queue.{Queue, new_queue, have_of, trimmed}
use Rattle.peer_model.specs.Peer.{numbered}
use Rattle.peer_packet.specs.Packet as wire
use Rattle.peer_packet.specs.Snapshot as snapshot
use Rattle.peer_calls.specs.declared.config.Config.{Config}
use Rattle.peer_calls.specs.declared.answers.SnapshotAnswer.{SnapshotAnswer}
use Rattle.peer_calls.specs.declared.answers.SnapshotAnswer.TheVariants.{TooShort, Put}
use Rattle.peer_calls.specs.declared.answers.JoinRefusal.{JoinRefusal}
use Rattle.peer_calls.specs.declared.answers.JoinRefusal.TheVariants.{Used, TooFar, TooMany}
use Rattle.peer_calls.specs.State.{State, clock_now, new_state}
use Rattle.peer_calls.specs.Sending.{counts_of}
use Rattle.peer_calls.specs.Wire.{as_sent, sent_from}

-- ---- what is handed over

-- a slot's queue
abbrev pub queue_handed : Queue → snapshot.Queue
queue_handed q = record { late = q.late; before = q.gone; commands = map as_sent q.commands }

-- of each slot that has issued, what is due from a tick on
abbrev pub queues_handed : ℕ → ℕ → (ℕ → Queue) → List snapshot.Queue
queues_handed from slots queues =
    map (λ o. queue_handed (trimmed from (queues o)))
    (filter (λ o. nat_lt 0 (have_of (queues o))) (range_with_len 0 slots))

-- what is due from the last copy's clock on
abbrev pub handed_by : {W : Type 0} → Config → State W → snapshot.Snapshot
handed_by c s = record {
  maker = s.me;
  base = last_tick s.roll;
  clock = clock_now s;
  have = counts_of c.terms.slots s.queues;
  queues = queues_handed (last_tick s.roll) c.terms.slots s.queues;
}

abbrev pub snapshot_text : {W : Type 0} → Config → State W → List ℕ
snapshot_text c s = snapshot.snapshot_bytes c.terms (handed_by c s)

-- its length is told, also where there is no room for it
abbrev pub said_to_snapshot : {W : Type 0} → Config → ℕ → State W → SnapshotAnswer
said_to_snapshot c room s =
    if nat_lt room (length (snapshot_text c s)) then TooShort (length (snapshot_text c s))
    else Put (length (snapshot_text c s))

-- ---- how the joiner begins

-- the queue of a slot of which the maker had so many commands: what was handed over are its last ones
abbrev pub queue_taken : ℕ → snapshot.Queue → Queue
queue_taken have q = record {
  kept = have - length q.commands;
  gone = q.before;
  commands = map sent_from q.commands;
  late = q.late;
}

unfoldable pub first_taken : ℕ → List snapshot.Queue → Queue
first_taken have [] = new_queue
first_taken have (q ∷ qs) = queue_taken have q

-- each slot that has issued takes the next queue
unfoldable pub queues_taken : List ℕ → List snapshot.Queue → ℕ → Queue
queues_taken [] qs o = new_queue
queues_taken (n ∷ ns) qs zero = if nat_lt 0 n then first_taken n qs else new_queue
queues_taken (n ∷ ns) qs (suc o) = queues_taken ns (if nat_lt 0 n then drop 1 qs else qs) o

-- their commands, by rising slot and number
unfoldable pub arriving : ℕ → (ℕ → Queue) → List Command
arriving zero queues = []
arriving (suc k) queues = arriving k queues ++ numbered k (queues k).kept (queues k).commands

-- whether it may not join: the slot is the maker's, or was one's that issued commands; a command is due where the
-- window doesn't reach, or there are more of a slot than it has room for
abbrev pub is_used : ℕ → snapshot.Snapshot → Bool
is_used me snap = (snap.maker == me) || nat_lt 0 (get_or snap.have me 0)

abbrev pub is_far : ℕ → snapshot.Snapshot → Bool
is_far window snap =
    list_any (λ (q : snapshot.Queue). list_any (λ (x : wire.Sent). nat_le (snap.base + window) x.time) q.commands) snap.queues

abbrev pub is_crowded : ℕ → snapshot.Snapshot → Bool
is_crowded room snap = list_any (λ (q : snapshot.Queue). nat_lt room (length q.commands)) snap.queues

abbrev pub join_refused : Config → ℕ → ℕ → snapshot.Snapshot → Option JoinRefusal
join_refused c me window snap =
    if is_used me snap then Some Used
    else if is_far window snap then Some TooFar
    else if is_crowded c.room snap then Some TooMany
    else None

-- what its mirror opens from: the maker's last copy, and what this hasn't run
abbrev pub opened_from : {W : Type 0} → W → Config → snapshot.Snapshot → SessionSnapshot W
opened_from world c snap = record {
  base = snap.base;
  clock = snap.base;
  plan = 0;
  world = world;
  commands = arriving c.terms.slots (queues_taken snap.have snap.queues);
}

-- a peer that joins with plans of its own: its copies stand at the snapshot's base, its commands are taken from the
-- snapshot's clock on
abbrev pub joined_state : {W : Type 0} → W → Config → ℕ → List Schedule → snapshot.Snapshot → State W
joined_state world c me plans snap =
    record (new_state me (opened_at (opened_from world c snap) plans (c.terms.slots * c.room) c.keep)) {
      start = snap.clock;
      queues = queues_taken snap.have snap.queues;
    }
