-- What a peer that joins opens from.
use Rattle.std.specs.Prelude.{ℕ}
use Rattle.rolling_mirror.specs.declared.handed.SessionSnapshot.{SessionSnapshot}
use Rattle.peer_packet.specs.Snapshot as snapshot
use Rattle.peer_calls.specs.declared.config.Config.{Config}
use Rattle.peer_calls.specs.Handing.{queues_taken, arriving}
use Rattle.peer_slots.specs.Queues.{QueueState}

-- the queues that it takes from a snapshot
abbrev pub taken_from : Config → snapshot.Snapshot → QueueState
taken_from c snap = record {
  slots = c.terms.slots;
  room = c.room;
  queues = queues_taken snap.have snap.queues;
}

-- another one's last copy, and the commands of these queues
abbrev pub opened_with : {W : Type 0} → W → ℕ → QueueState → SessionSnapshot W
opened_with world base q = record {
  base = base;
  clock = base;
  plan = 0;
  world = world;
  commands = arriving q.slots q.queues;
}
