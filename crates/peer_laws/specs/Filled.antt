-- What a packet has of what is due.
use Rattle.std.specs.Prelude.{◌≡◌, ℕ, zero, suc, ◌+◌, ◌≤◌, ◌<◌, ◌↔◌, ◌⊎◌, false, List, [], ◌∷◌, ◌++◌, length}
use Rattle.std.specs.List.{flat_map}
use Rattle.peer_packet.specs.declared.cursor.Cursor.{Cursor}
use Rattle.peer_packet.specs.Packet.{Part, part_bytes}
use Rattle.peer_packet.specs.Filling.{Filled, at_start, first_part, from_cursor}
use Rattle.peer_calls.specs.declared.answers.PacketAnswer.{PacketAnswer}
use Rattle.peer_calls.specs.declared.answers.PacketAnswer.TheVariants.{NotThere, Short, Made}

abbrev pub waits_behind : Cursor → List Part → List Part
waits_behind c due = from_cursor c due

-- so many first commands of a part: no part where these are none
abbrev pub some_of : ℕ → Part → List Part
some_of zero p = []
some_of (suc k) p = first_part (suc k) p ∷ []

-- all that waits is put, and the next packet begins anew
pub record IsAll (waits : List Part) (put : Filled) : Type 0 where
  pub parts : put.parts ≡ waits
  pub cursor : put.cursor ≡ at_start

-- it ends in a part: those before it are put, and of it so many commands. With one more, or with its head where it has
-- none, the packet would be too long. The next one begins there
pub record EndsIn (room : ℕ) (waits : List Part) (put : Filled) : Type 0 where
  pub whole : List Part
  pub last : Part
  pub others : List Part
  pub count : ℕ
  pub are : waits ≡ whole ++ last ∷ others
  pub parts : put.parts ≡ whole ++ some_of count last
  pub too_long : room < length (flat_map part_bytes (whole ++ first_part (suc count) last ∷ []))
  pub cursor : put.cursor ≡ record { slot = last.origin; number = last.first + count }

pub record HasWhatFits (room : ℕ) (waits : List Part) (put : Filled) : Type 0 where
  pub fits : length (flat_map part_bytes put.parts) ≤ room
  pub ends : IsAll waits put ⊎ EndsIn room waits put

-- a packet was made, and it is told that more is due where not all is in it
abbrev pub IsTold : PacketAnswer → List Part → List Part → Type 0
IsTold NotThere due put = ⊥
IsTold (Short head) due put = ⊥
IsTold (Made is_more size) due put = (is_more ≡ false) ↔ (put ≡ due)
