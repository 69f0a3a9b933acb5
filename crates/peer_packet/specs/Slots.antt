-- What is behind a slot's queue.
use Rattle.std.specs.Prelude.{List, Ok, Result, if◌then◌else◌, nat_lt, ℕ}
use Rattle.peer_packet.specs.declared.fault.Fault.{Fault}
use Rattle.peer_packet.specs.Reading.{behind}
use Rattle.peer_packet.specs.Snapshot.{queue_at}

abbrev pub slot_behind : ℕ → ℕ → ℕ → List ℕ → Result (List ℕ) Fault
slot_behind payload base n bytes = if nat_lt 0 n then behind (queue_at payload base n bytes) else Ok bytes
