-- All that a peer knows, of which each of its calls is a function.
use Rattle.std.specs.Prelude.{ℕ, Option, Some, None}
use Rattle.rolling_mirror.specs.Rolling.{RollState}
use Rattle.peer_model.specs.Queue.{Queue, new_queue}
use Rattle.peer_model.specs.Marks.{Marks, no_marks}
use Rattle.peer_window.specs.Window.{RollPeer, roll_clock}
use Rattle.peer_packet.specs.declared.cursor.Cursor.{Cursor}
use Rattle.peer_packet.specs.Filling.{at_start}
use Rattle.peer_calls.specs.declared.newest.Newest.{Newest}

-- its slot, and the clock from which its commands are taken; a queue for each slot; of each other peer what it is
-- known to have, the newest that was heard, and where the last packet for it ended; marks; and its mirror
pub record State (W : Type 0) : Type 0 where
  pub me : ℕ
  pub start : ℕ
  pub queues : ℕ → Queue
  pub known : ℕ → ℕ → ℕ
  pub newest : ℕ → Option Newest
  pub cursor : ℕ → Cursor
  pub marks : Marks
  pub roll : RollState W

-- its clock, as a tick of the session
abbrev pub clock_now : {W : Type 0} → State W → ℕ
clock_now s = roll_clock s.roll

-- the newest clock that was heard, 0 where none was
abbrev pub newest_clock : Option Newest → ℕ
newest_clock None = 0
newest_clock (Some n) = n.clock

-- what `peer_window` sees of it
abbrev pub window_of : {W : Type 0} → State W → RollPeer W
window_of s = record {
  queues = s.queues;
  known = s.known;
  heard = λ j. newest_clock (s.newest j);
  roll = s.roll;
}

-- its queues and its mirror are those of a window
abbrev pub with_window : {W : Type 0} → RollPeer W → State W → State W
with_window v s = record s { queues = v.queues; roll = v.roll }

-- a peer before anything was heard
abbrev pub new_state : {W : Type 0} → ℕ → RollState W → State W
new_state me roll = record {
  me = me;
  start = 0;
  queues = λ o. new_queue;
  known = λ j o. 0;
  newest = λ j. None;
  cursor = λ j. at_start;
  marks = no_marks;
  roll = roll;
}
