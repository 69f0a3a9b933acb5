-- A packet that is put, of a peer's state in parts.
use Rattle.std.specs.Prelude.{ℕ, ◌≤◌, length}
use Rattle.std.specs.List.{AllByRecursion}
use Rattle.rolling_mirror.specs.Rolling.{RollState}
use Rattle.peer_calls.specs.declared.answers.PacketAnswer.{PacketAnswer}
use Rattle.peer_calls.specs.declared.answers.PacketAnswer.TheVariants.{NotThere, Short, Made}
use Rattle.peer_calls.specs.State.{State}
use Rattle.peer_slots.specs.Links.{LinkState}
use Rattle.peer_slots.specs.Queues.{QueueState}

-- the peer of a slot that takes own commands from a clock on, with these queues, links and this mirror
abbrev pub state_of : {W : Type 0} → ℕ → ℕ → QueueState → LinkState → RollState W → State W
state_of me start q l roll = record {
  me = me;
  start = start;
  queues = q.queues;
  known = l.known;
  newest = l.newest;
  cursor = l.cursor;
  marks = l.marks;
  roll = roll;
}

-- no command that is remembered has more bytes than the session allows
abbrev pub AreShort : ℕ → QueueState → Type 0
AreShort payload q = (o : ℕ) → AllByRecursion (λ x. length x.bytes ≤ payload) (q.queues o).commands

-- a packet was put, of so many bytes
abbrev pub IfMade : PacketAnswer → (ℕ → Type 0) → Type 0
IfMade NotThere so = Unit {0}
IfMade (Short head) so = Unit {0}
IfMade (Made is_more size) so = so size

-- or none
abbrev pub IfRefused : PacketAnswer → Type 0 → Type 0
IfRefused NotThere so = so
IfRefused (Short head) so = so
IfRefused (Made is_more size) so = Unit {0}
