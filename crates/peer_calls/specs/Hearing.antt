-- What a peer makes of a packet that it hears.
use Rattle.std.specs.Prelude.{ℕ, ◌+◌, ◌-◌, Bool, true, false, max, not, nat_lt, ◌==◌, ◌&&◌, ◌||◌, if◌then◌else◌, Option, Some, None, List, [], ◌∷◌, map, drop, length, get_or}
use Rattle.std.specs.List.{list_any}
use Rattle.rolling_mirror.specs.declared.arrival.Arrival.{Arrival}
use Rattle.rolling_mirror.specs.declared.arrival.Arrival.TheVariants.{Taken, Repeat, Late, Far, Full}
use Rattle.rolling_mirror.specs.Rolling.{RollState, last_tick, said_to_arrival, arrived}
use Rattle.peer_model.specs.Queue.{Sent, Queue, Part, have_of, is_behind, skipped, joined, conflicts}
use Rattle.peer_model.specs.Peer.{put, is_ahead, refuses}
use Rattle.peer_model.specs.Marks.{Marks, differ, hears_mark}
use Rattle.peer_window.specs.Window.{RollPeer, next_command, counts, rolls_part, with_heard, rolls_parts}
use Rattle.peer_packet.specs.Packet as wire
use Rattle.peer_calls.specs.declared.config.Config.{Config}
use Rattle.peer_calls.specs.declared.newest.Newest.{Newest}
use Rattle.peer_calls.specs.State.{State, clock_now, window_of, with_window}
use Rattle.peer_calls.specs.declared.told.Told.{Told}
use Rattle.peer_calls.specs.declared.answers.HearAnswer.{HearAnswer}
use Rattle.peer_calls.specs.declared.answers.HearAnswer.TheVariants.{NotForMe, Ahead, Conflict, Heard}
use Rattle.peer_calls.specs.Wire.{part_from, packet_from_wire}

-- ---- what is told

-- the mirror's answer to a command
abbrev pub with_answer : Arrival → Told → Told
with_answer (Taken repaired) t = record t { taken = t.taken + 1; repaired = max t.repaired repaired }
with_answer Repeat t = t
with_answer (Late bound) t = record t { late = t.late + 1 }
with_answer (Far end) t = record t { far = true }
with_answer Full t = record t { full = true }

-- of commands of a slot, until one isn't counted
unfoldable pub tells_each : {W : Type 0} → ℕ → ℕ → List Sent → Queue → RollState W → Told → Told
tells_each room o [] q r t = t
tells_each room o (x ∷ xs) q r t =
    if length q.commands == room then record t { full = true }
    else if counts room o x q r
    then tells_each room o xs (joined (last_tick r) (x ∷ []) q) (arrived r (next_command o x q) (said_to_arrival r (next_command o x q)))
    (with_answer (said_to_arrival r (next_command o x q)) t)
    else with_answer (said_to_arrival r (next_command o x q)) t

-- of a part: all that is missing before it is late, or it is left for a gap
abbrev pub tells_part : {W : Type 0} → ℕ → Part → Queue → RollState W → Told → Told
tells_part room p q r t =
    if is_behind p q
    then (if nat_lt p.before (last_tick r)
    then tells_each room p.origin (drop (have_of (skipped p q) - p.first) p.commands) (skipped p q) r (record t { late = t.late + (p.first - have_of q) })
    else record t { gap = true })
    else tells_each room p.origin (drop (have_of q - p.first) p.commands) q r t

unfoldable pub tells_parts : {W : Type 0} → ℕ → List Part → RollPeer W → Told → Told
tells_parts room [] v t = t
tells_parts room (p ∷ ps) v t =
    tells_parts room ps (with_heard p.origin (rolls_part room p (v.queues p.origin) v.roll) v)
    (tells_part room p (v.queues p.origin) v.roll t)

-- ---- the head

-- a clock and an echo are above the newest, in this order
abbrev pub is_above : ℕ → ℕ → Option Newest → Bool
is_above clock echo None = true
is_above clock echo (Some n) = nat_lt n.clock clock || ((n.clock == clock) && nat_lt n.echo echo)

abbrev pub newer : ℕ → ℕ → ℕ → Option Newest → Option Newest
newer clock echo at old =
    if is_above clock echo old then Some (record { clock = clock; echo = echo; at = at }) else old

abbrev pub hears_if_marked : ℕ → Option (ℕ × ℕ) → Marks → Marks
hears_if_marked j None m = m
hears_if_marked j (Some x) m = hears_mark j (record { tick = x.0; sum = x.1 }) m

-- an own mark is of this tick, with another sum
abbrev pub is_differing : Option (ℕ × ℕ) → Marks → Bool
is_differing None m = false
is_differing (Some x) m = list_any (differ (record { tick = x.0; sum = x.1 })) m.own

abbrev pub hears_head : {W : Type 0} → wire.Packet → State W → State W
hears_head p s = record s {
  known = put p.from (λ o. max (s.known p.from o) (get_or p.have o 0)) s.known;
  newest = put p.from (newer p.clock p.echo (clock_now s) (s.newest p.from)) s.newest;
  marks = hears_if_marked p.from p.mark s.marks;
}

-- ---- a packet

-- a packet that isn't refused: its head, and then each of its parts
abbrev pub hears_packet : {W : Type 0} → Config → wire.Packet → State W → State W
hears_packet c p s =
    with_window (rolls_parts c.room (map part_from p.parts) (window_of (hears_head p s))) (hears_head p s)

abbrev pub told_of : {W : Type 0} → Config → wire.Packet → State W → Told
told_of c p s =
    tells_parts c.room (map part_from p.parts) (window_of s)
    (record { taken = 0; late = 0; repaired = 0; gap = false; far = false; full = false; differs = is_differing p.mark s.marks })

-- the slot of the first part that conflicts, 0 where none does
unfoldable pub conflicting : List Part → (ℕ → Queue) → ℕ
conflicting [] queues = 0
conflicting (p ∷ ps) queues = if conflicts p (queues p.origin) then p.origin else conflicting ps queues

-- what it answers to a packet that was read; the first refusal in this order
abbrev pub said_to_packet_heard : {W : Type 0} → Config → wire.Packet → State W → HearAnswer
said_to_packet_heard c p s =
    let q = packet_from_wire p in
    if not (p.to == s.me) then NotForMe
    else if is_ahead s.me q s.queues (clock_now s) then Ahead
    else if list_any (λ part. conflicts part (s.queues part.origin)) q.parts then Conflict (conflicting q.parts s.queues)
    else Heard p.from (told_of c p s)

-- a packet that is refused changes nothing
abbrev pub is_packet_refused : {W : Type 0} → wire.Packet → State W → Bool
is_packet_refused p s =
    not (p.to == s.me) || refuses s.me (packet_from_wire p) s.queues (clock_now s)

abbrev pub after_hearing : {W : Type 0} → Config → wire.Packet → State W → State W
after_hearing c p s = if is_packet_refused p s then s else hears_packet c p s
