-- What a peer puts into a packet for another one.
use Rattle.std.specs.Prelude.{ℕ, ◌-◌, Bool, not, nat_lt, ◌==◌, ◌&&◌, if◌then◌else◌, Option, Some, None, List, [], ◌∷◌, map, length}
use Rattle.std.specs.List.{range_with_len}
use Rattle.peer_model.specs.Queue.{Queue, have_of, part_of}
use Rattle.peer_model.specs.Peer.{Span, put}
use Rattle.peer_model.specs.declared.mark.Mark.{Mark}
use Rattle.peer_model.specs.Due.{due_spans}
use Rattle.peer_packet.specs.Packet as wire
use Rattle.peer_packet.specs.Filling.{Filled, put_in, weight}
use Rattle.peer_calls.specs.declared.config.Config.{Config}
use Rattle.peer_calls.specs.State.{State, clock_now, newest_clock}
use Rattle.peer_calls.specs.declared.answers.PacketAnswer.{PacketAnswer}
use Rattle.peer_calls.specs.declared.answers.PacketAnswer.TheVariants.{NotThere, Short, Made}
use Rattle.peer_calls.specs.Wire.{as_part}

-- how many commands of each slot it has
abbrev pub counts_of : ℕ → (ℕ → Queue) → List ℕ
counts_of slots queues = map (λ o. have_of (queues o)) (range_with_len 0 slots)

-- the newest of marks
unfoldable pub newest_mark : List Mark → Option (ℕ × ℕ)
newest_mark [] = None
newest_mark (x ∷ []) = Some (x.tick, x.sum)
newest_mark (x ∷ y ∷ xs) = newest_mark (y ∷ xs)

-- the part that a span of its queues is
abbrev pub span_part : (ℕ → Queue) → Span → wire.Part
span_part queues s = as_part (part_of s.origin s.first s.count (queues s.origin))

-- all that is due for another one, by rising slot
abbrev pub due_parts : {W : Type 0} → Config → ℕ → State W → List wire.Part
due_parts c to s =
    map (span_part s.queues)
    (due_spans s.me c.relay to s.queues (s.known to) (clock_now s) c.terms.slots)

-- a packet without parts
abbrev pub head_for : {W : Type 0} → Config → ℕ → State W → wire.Packet
head_for c to s = record {
  from = s.me;
  to = to;
  clock = clock_now s;
  echo = newest_clock (s.newest to);
  have = counts_of c.terms.slots s.queues;
  mark = newest_mark s.marks.own;
  parts = [];
}

abbrev pub head_length : {W : Type 0} → Config → ℕ → State W → ℕ
head_length c to s = length (wire.bytes_of c.terms.session (head_for c to s))

-- what is put of what is due, behind where the last packet ended, and where this one ends
abbrev pub filled_for : {W : Type 0} → Config → ℕ → ℕ → State W → Filled
filled_for c to room s = put_in (s.cursor to) (room - head_length c to s) (due_parts c to s)

abbrev pub packet_for : {W : Type 0} → Config → ℕ → ℕ → State W → wire.Packet
packet_for c to room s = record (head_for c to s) { parts = (filled_for c to room s).parts }

abbrev pub packet_bytes : {W : Type 0} → Config → ℕ → ℕ → State W → List ℕ
packet_bytes c to room s = wire.bytes_of c.terms.session (packet_for c to room s)

-- the other end of a packet
abbrev pub is_other : {W : Type 0} → Config → ℕ → State W → Bool
is_other c to s = nat_lt to c.terms.slots && not (to == s.me)

abbrev pub has_room : {W : Type 0} → Config → ℕ → ℕ → State W → Bool
has_room c to room s = not (nat_lt room (head_length c to s))

abbrev pub is_more : {W : Type 0} → Config → ℕ → ℕ → State W → Bool
is_more c to room s = not (weight (filled_for c to room s).parts == weight (due_parts c to s))

abbrev pub said_to_packet : {W : Type 0} → Config → ℕ → ℕ → State W → PacketAnswer
said_to_packet c to room s =
    if not (is_other c to s) then NotThere
    else if not (has_room c to room s) then Short (head_length c to s)
    else Made (is_more c to room s) (length (packet_bytes c to room s))

-- the cursor alone changes, and nothing where it is refused
abbrev pub after_packet : {W : Type 0} → Config → ℕ → ℕ → State W → State W
after_packet c to room s =
    if is_other c to s && has_room c to room s
    then record s { cursor = put to (filled_for c to room s).cursor s.cursor }
    else s
