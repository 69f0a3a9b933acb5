-- What is put into a packet: of what is due, as much as there is room for, from where the last packet ended.
use Rattle.std.specs.Prelude.{Bool, List, [], if◌then◌else◌, length, take, drop, nat_le, nat_lt, suc, ℕ, ◌&&◌, ◌+◌, ◌-◌, ◌==◌, ◌||◌, ◌∷◌}
use Rattle.peer_packet.specs.declared.cursor.Cursor.{Cursor}
use Rattle.peer_packet.specs.declared.filling.Piece.{Piece}
use Rattle.peer_packet.specs.Packet.{Sent, Part, part_bytes}

-- where the first packet begins
abbrev pub at_start : Cursor
at_start = record { slot = 0; number = 0 }

-- ---- what is left out, since it was put before

-- the time of the last of commands, or the given one where there is none
unfoldable pub last_time : ℕ → List Sent → ℕ
last_time t [] = t
last_time t (c ∷ cs) = last_time c.time cs

-- a part without its first commands, and with no others
abbrev pub later_part : ℕ → Part → Part
later_part k p = record p {
  first = p.first + k;
  before = last_time p.before (take k p.commands);
  commands = drop k p.commands;
}

abbrev pub first_part : ℕ → Part → Part
first_part k p = record p { commands = take k p.commands }

-- parts of slots below the cursor's are left out, of its slot the numbers below its number, and an empty part there
-- that begins below it
unfoldable pub behind_cursor : Cursor → List Part → List Part
behind_cursor c [] = []
behind_cursor c (p ∷ ps) =
    if nat_lt p.origin c.slot then behind_cursor c ps
    else if nat_lt c.slot p.origin || nat_le c.number p.first then p ∷ ps
    else if nat_le (p.first + length p.commands) c.number then ps
    else later_part (c.number - p.first) p ∷ ps

-- unless that leaves nothing
abbrev pub or_all : List Part → List Part → List Part
or_all due [] = due
or_all due (p ∷ ps) = p ∷ ps

abbrev pub from_cursor : Cursor → List Part → List Part
from_cursor c due = or_all due (behind_cursor c due)

-- ---- what there is room for

-- how many of the first commands fit
unfoldable pub fitting : ℕ → List Sent → ℕ
fitting room [] = 0
fitting room (c ∷ cs) =
    if nat_le (5 + length c.payload) room then suc (fitting (room - (5 + length c.payload)) cs) else 0

-- a packet ends before a part where its head doesn't fit, or commands are due and the first doesn't fit behind it
abbrev pub ends_before : ℕ → Part → Bool
ends_before room p =
    nat_lt room 11 || (nat_lt 0 (length p.commands) && (fitting (room - 11) p.commands == 0))

-- what is put, and where the next packet begins
pub record Filled : Type 0 where
  pub parts : List Part
  pub cursor : Cursor

abbrev pub with_part : Part → Filled → Filled
with_part p f = record f { parts = p ∷ f.parts }

-- of each part as many commands as fit; where these aren't all it ends
unfoldable pub filled : ℕ → List Part → Filled
filled room [] = record { parts = []; cursor = at_start }
filled room (p ∷ ps) =
    if ends_before room p then record { parts = []; cursor = record { slot = p.origin; number = p.first } }
    else if nat_lt (fitting (room - 11) p.commands) (length p.commands)
    then record {
      parts = first_part (fitting (room - 11) p.commands) p ∷ [];
      cursor = record { slot = p.origin; number = p.first + fitting (room - 11) p.commands };
    }
    else with_part p (filled (room - length (part_bytes p)) ps)

abbrev pub put_in : Cursor → ℕ → List Part → Filled
put_in cursor room due = filled room (from_cursor cursor due)

-- the part that a piece of a slot's commands is
abbrev pub part_of : Piece → List Sent → Part
part_of x commands = record {
  origin = x.origin;
  first = x.first;
  before = x.before;
  commands = take x.count (drop x.from commands);
}

-- ---- how much waits

-- parts, and the commands in them
unfoldable pub weight : List Part → ℕ
weight [] = 0
weight (p ∷ ps) = 1 + length p.commands + weight ps
