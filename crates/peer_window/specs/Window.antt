-- A peer whose mirror forgets: what it does with each call, as a function of what it remembers.
use Rattle.std.specs.Prelude.{◌≡◌, ℕ, zero, suc, ◌+◌, ◌-◌, ◌^◌, ◌≤◌, ◌<◌, Bool, true, false, max, not, nat_lt, ◌==◌, ◌&&◌, if◌then◌else◌, List, [], ◌∷◌, length, drop}
use Rattle.game_trait.specs.declared.command.Command.{Command}
use Rattle.game_trait.specs.Game.{Rules}
use Rattle.sync_model.specs.State.{MirrorState}
use Rattle.sync_model.specs.Staggered.{IsTrailing}
use Rattle.rolling_mirror.specs.declared.arrival.Arrival.{Arrival}
use Rattle.rolling_mirror.specs.declared.arrival.Arrival.TheVariants.{Taken, Repeat, Late, Far, Full}
use Rattle.rolling_mirror.specs.Rolling.{RollState, IsWindowOf, last_tick, said_to_arrival, arrived}
use Rattle.peer_model.specs.Queue.{Sent, Queue, Part, have_of, is_behind, skipped, joined}
use Rattle.peer_model.specs.Peer.{Peer, Packet, put, command}

-- a peer's queues, what it knows of others, and its mirror
pub record RollPeer (W : Type 0) : Type 0 where
  pub queues : ℕ → Queue
  pub known : ℕ → ℕ → ℕ
  pub heard : ℕ → ℕ
  pub roll : RollState W

-- a queue beside the mirror
pub record Heard (W : Type 0) : Type 0 where
  pub queue : Queue
  pub roll : RollState W

-- its clock, as a tick of the session
abbrev pub roll_clock : {W : Type 0} → RollState W → ℕ
roll_clock r = r.left.clock + r.base

-- an answer by which a command is counted: it was accepted, or turned away for good
abbrev pub is_counted : Arrival → Bool
is_counted (Taken repaired) = true
is_counted (Late bound) = true
is_counted Repeat = false
is_counted (Far end) = false
is_counted Full = false

-- the next command of a slot arrives, under the next number
abbrev pub next_command : ℕ → Sent → Queue → Command
next_command o x q = command x.time o (have_of q)

-- it is counted where the queue has room and the mirror answers so
abbrev pub counts : {W : Type 0} → ℕ → ℕ → Sent → Queue → RollState W → Bool
counts room o x q r =
    not (length q.commands == room) && is_counted (said_to_arrival r (next_command o x q))

-- commands of a slot arrive and are counted, until one isn't
unfoldable pub counts_each : {W : Type 0} → ℕ → ℕ → List Sent → Queue → RollState W → Heard W
counts_each room o [] q r = record { queue = q; roll = r }
counts_each room o (x ∷ xs) q r =
    if counts room o x q r
    then counts_each room o xs (joined (last_tick r) (x ∷ []) q)
    (arrived r (next_command o x q) (said_to_arrival r (next_command o x q)))
    else record { queue = q; roll = r }

-- how many of them are counted
unfoldable pub counted_each : {W : Type 0} → ℕ → ℕ → List Sent → Queue → RollState W → ℕ
counted_each room o [] q r = 0
counted_each room o (x ∷ xs) q r =
    if counts room o x q r
    then suc (counted_each room o xs (joined (last_tick r) (x ∷ []) q)
    (arrived r (next_command o x q) (said_to_arrival r (next_command o x q))))
    else 0

-- a part is heard
abbrev pub rolls_part : {W : Type 0} → ℕ → Part → Queue → RollState W → Heard W
rolls_part room p q r =
    if is_behind p q
    then (if nat_lt p.before (last_tick r) then counts_each room p.origin (drop (have_of (skipped p q) - p.first) p.commands) (skipped p q) r
    else record { queue = q; roll = r })
    else counts_each room p.origin (drop (have_of q - p.first) p.commands) q r

-- after how many of its new commands the window, the mirror's room or the queue's stops it, or it ends
abbrev pub stop_of : {W : Type 0} → ℕ → Part → Queue → RollState W → ℕ
stop_of room p q r =
    if is_behind p q
    then (if nat_lt p.before (last_tick r) then counted_each room p.origin (drop (have_of (skipped p q) - p.first) p.commands) (skipped p q) r
    else 0)
    else counted_each room p.origin (drop (have_of q - p.first) p.commands) q r

abbrev pub with_heard : {W : Type 0} → ℕ → Heard W → RollPeer W → RollPeer W
with_heard o h v = record v { queues = put o h.queue v.queues; roll = h.roll }

unfoldable pub rolls_parts : {W : Type 0} → ℕ → List Part → RollPeer W → RollPeer W
rolls_parts room [] v = v
rolls_parts room (p ∷ ps) v = rolls_parts room ps (with_heard p.origin (rolls_part room p (v.queues p.origin) v.roll) v)

-- where each part is stopped, by its place
unfoldable pub stops_of : {W : Type 0} → ℕ → List Part → RollPeer W → ℕ → ℕ
stops_of room [] v place = 0
stops_of room (p ∷ ps) v zero = stop_of room p (v.queues p.origin) v.roll
stops_of room (p ∷ ps) v (suc place) =
    stops_of room ps (with_heard p.origin (rolls_part room p (v.queues p.origin) v.roll) v) place

-- what the head of a packet tells
abbrev pub rolls_head : {W : Type 0} → Packet → RollPeer W → RollPeer W
rolls_head p v = record v {
  known = put p.sender (λ o. max (v.known p.sender o) (p.have o)) v.known;
  heard = put p.sender (max (v.heard p.sender) p.clock) v.heard;
}

-- a packet that isn't refused is heard
abbrev pub rolls_packet : {W : Type 0} → ℕ → Packet → RollPeer W → RollPeer W
rolls_packet room p v = rolls_parts room p.parts (rolls_head p v)

-- a mirror is the window of one that remembers all, of a match that is longer than a session
pub record IsRolled {W : Type 0} (rules : Rules W) (whole : MirrorState W) (r : RollState W) : Type 0 where
  pub window : IsWindowOf rules whole r
  pub trailing : IsTrailing r.left.accepted r.left.runs
  pub within : r.left.clock < r.left.length
  pub in_session : r.base + r.left.clock < 2 ^ 32
  pub long : 2 ^ 32 ≤ whole.length

-- a peer is the window of one whose mirror remembers all
pub record IsWindow {W : Type 0} (rules : Rules W) (m : Peer W) (v : RollPeer W) : Type 0 where
  pub queues : (o : ℕ) → v.queues o ≡ m.queues o
  pub known : (j o : ℕ) → v.known j o ≡ m.known j o
  pub heard : (j : ℕ) → v.heard j ≡ m.heard j
  pub rolled : IsRolled rules m.whole v.roll
