-- Reading from left to right: each step reads a field or tests it, and names the fault beside it.
use Rattle.std.specs.Prelude.{Bool, Err, List, None, Ok, Option, Result, Some, [], drop, if◌then◌else◌, length, nat_le, nat_lt, suc, take, true, zero, ℕ, ◌%◌, ◌&&◌, ◌+◌, ◌/◌, ◌==◌, ◌∷◌, ◌≡◌, ◌≤◌}
use Rattle.std.specs.Int.{Width, byte_len, from_le_bytes, w16, w32, w64}
use Rattle.std.specs.List.{flat_map}
use Rattle.tss_io.specs.Results.{◌>>=◌}
use Rattle.peer_packet.specs.declared.fault.Fault.{Fault}
use Rattle.peer_packet.specs.declared.fault.Fault.TheVariants as faults
use Rattle.peer_packet.specs.declared.front.Front.{Front}
use Rattle.peer_packet.specs.declared.part.PartHead.{PartHead}
use Rattle.peer_packet.specs.declared.terms.Terms.{Terms}
use Rattle.peer_packet.specs.Packet.{Sent, Part, Packet, are_ends, flag_of, is_part, part_bytes}

-- ---- fields: a value, and the bytes behind it

abbrev pub byte_at : Fault → List ℕ → Result (ℕ × List ℕ) Fault
byte_at fault [] = Err fault
byte_at fault (b ∷ bytes) = Ok (b, bytes)

unfoldable pub number_at : Width → Fault → List ℕ → Result (ℕ × List ℕ) Fault
number_at w fault bytes =
    if nat_lt (length bytes) (byte_len w) then Err fault
    else Ok (from_le_bytes w (take (byte_len w) bytes), drop (byte_len w) bytes)

unfoldable pub piece_at : ℕ → Fault → List ℕ → Result (List ℕ × List ℕ) Fault
piece_at n fault bytes = if nat_lt (length bytes) n then Err fault else Ok (take n bytes, drop n bytes)

abbrev pub check : Bool → Fault → Result (Unit {0}) Fault
check holds fault = if holds then Ok tt else Err fault

-- ---- a packet

unfoldable pub sent_at : ℕ → ℕ → List ℕ → Result (Sent × List ℕ) Fault
sent_at payload before bytes = do
  time ← number_at w32 faults.Command bytes
  size ← byte_at faults.Command time.1
  right ← check (nat_le before time.0 && nat_le size.0 payload) faults.Command
  text ← piece_at size.0 faults.Command size.1
  Ok (record { time = time.0; payload = text.0 }, text.1)

unfoldable pub sents_at : ℕ → ℕ → ℕ → List ℕ → Result (List Sent × List ℕ) Fault
sents_at payload zero before bytes = Ok ([], bytes)
sents_at payload (suc count) before bytes = do
  c ← sent_at payload before bytes
  more ← sents_at payload count c.0.time c.1
  Ok (c.0 ∷ more.0, more.1)

unfoldable pub head_at : List ℕ → Result (PartHead × List ℕ) Fault
head_at bytes = do
  origin ← byte_at faults.Part bytes
  count ← number_at w16 faults.Part origin.1
  first ← number_at w32 faults.Part count.1
  before ← number_at w32 faults.Part first.1
  Ok (record { origin = origin.0; count = count.0; first = first.0; before = before.0 }, before.1)

-- a part whose head passes the test
unfoldable pub part_at : (PartHead → Bool) → ℕ → List ℕ → Result (Part × List ℕ) Fault
part_at test payload bytes = do
  head ← head_at bytes
  right ← check (test head.0) faults.Part
  commands ← sents_at payload head.0.count head.0.before head.1
  Ok (
    record {
      origin = head.0.origin;
      first = head.0.first;
      before = head.0.before;
      commands = commands.0;
    },
    commands.1,
  )

-- parts to the end, of origins from `least` on: at most `most`
unfoldable pub parts_at : (ℕ → PartHead → Bool) → ℕ → ℕ → ℕ → List ℕ → Result (List Part) Fault
parts_at test payload least zero [] = Ok []
parts_at test payload least zero (b ∷ bytes) = Err faults.Part
parts_at test payload least (suc most) [] = Ok []
parts_at test payload least (suc most) (b ∷ bytes) = do
  part ← part_at (test least) payload (b ∷ bytes)
  more ← parts_at test payload (part.0.origin + 1) most part.1
  Ok (part.0 ∷ more)

-- a slot's count: 0 where its bit isn't set
unfoldable pub count_at : Bool → List ℕ → Result (ℕ × List ℕ) Fault
count_at is_set bytes =
    if is_set then (do
      n ← number_at w32 faults.Vector bytes
      right ← check (nat_lt 0 n.0) faults.Vector
      Ok n)
    else Ok (0, bytes)

-- the counts of so many slots, whose bits the mask has
unfoldable pub counts_at : ℕ → ℕ → List ℕ → Result (List ℕ × List ℕ) Fault
counts_at zero mask bytes = if mask == 0 then Ok ([], bytes) else Err faults.Vector
counts_at (suc slots) mask bytes = do
  n ← count_at (mask % 2 == 1) bytes
  more ← counts_at slots (mask / 2) n.1
  Ok (n.0 ∷ more.0, more.1)

unfoldable pub vector_at : ℕ → List ℕ → Result (List ℕ × List ℕ) Fault
vector_at slots bytes = do
  mask ← number_at w64 faults.Vector bytes
  counts_at slots mask.0 mask.1

unfoldable pub mark_at : ℕ → List ℕ → Result (Option (ℕ × ℕ) × List ℕ) Fault
mark_at flag bytes =
    if flag == 0 then Ok (None, bytes)
    else (do
      tick ← number_at w32 faults.Mark bytes
      sum ← number_at w32 faults.Mark tick.1
      Ok (Some (tick.0, sum.0), sum.1))

unfoldable pub front_at : Terms → List ℕ → Result (Front × List ℕ) Fault
front_at terms bytes = do
  kind ← byte_at faults.Kind bytes
  right ← check (kind.0 == 1) faults.Kind
  session ← number_at w64 faults.Session kind.1
  ours ← check (session.0 == terms.session) faults.OtherSession
  from ← byte_at faults.Ends session.1
  to ← byte_at faults.Ends from.1
  ends ← check (are_ends terms.slots from.0 to.0) faults.Ends
  flag ← byte_at faults.Head to.1
  clock ← number_at w32 faults.Head flag.1
  echo ← number_at w32 faults.Head clock.1
  known ← check (nat_le flag.0 1) faults.Head
  Ok (record { from = from.0; to = to.0; flag = flag.0; clock = clock.0; echo = echo.0 }, echo.1)

unfoldable pub packet_at : Terms → List ℕ → Result Packet Fault
packet_at terms bytes = do
  front ← front_at terms bytes
  have ← vector_at terms.slots front.1
  mark ← mark_at front.0.flag have.1
  parts ← parts_at (is_part terms.slots front.0.to have.0) terms.payload 0 terms.slots mark.1
  Ok (record {
    from = front.0.from;
    to = front.0.to;
    clock = front.0.clock;
    echo = front.0.echo;
    have = have.0;
    mark = mark.0;
    parts = parts;
  })

-- ---- what views show

-- any head
abbrev pub any_part : ℕ → PartHead → Bool
any_part least head = true

abbrev pub or_none : {A E : Type 0} → Result (List A) E → List A
or_none (Ok xs) = xs
or_none (Err e) = []

-- parts whose bytes these are, read by nothing but their lengths
unfoldable pub plain_parts : List ℕ → Result (List Part) Fault
plain_parts bytes = parts_at any_part 255 0 256 bytes

abbrev pub parts_in : List ℕ → List Part
parts_in bytes = or_none (plain_parts bytes)

-- what always holds of a packet over its bytes
pub record IsShown (flag : ℕ) (mark : Option (ℕ × ℕ)) (have parts : List ℕ) : Type 0 where
  pub flag_is : flag ≡ flag_of mark
  pub few : length have ≤ 64
  pub plain : plain_parts parts ≡ Ok (parts_in parts)
  pub bytes : parts ≡ flat_map part_bytes (parts_in parts)

-- what is behind what was read
abbrev pub behind : {A : Type 0} → Result (A × List ℕ) Fault → Result (List ℕ) Fault
behind read = read >>= λ x. Ok x.1

-- the origin of what was read, and what is behind it
abbrev pub passed : Result (Part × List ℕ) Fault → Result (ℕ × List ℕ) Fault
passed read = read >>= λ x. Ok (x.0.origin, x.1)

-- whether it can be read
abbrev pub ended : {A : Type 0} → Result A Fault → Result (Unit {0}) Fault
ended read = read >>= λ _. Ok tt

-- the commands that stand in bytes, read by nothing but their order and lengths
unfoldable pub plain_sents : ℕ → ℕ → List ℕ → Result (List Sent × List ℕ) Fault
plain_sents count before bytes = sents_at 255 count before bytes

abbrev pub in_front : {A : Type 0} → Result (List A × List ℕ) Fault → List A
in_front (Ok x) = x.0
in_front (Err e) = []

abbrev pub sents_in : ℕ → ℕ → List ℕ → List Sent
sents_in count before bytes = in_front (plain_sents count before bytes)

-- bytes that begin with so many commands
abbrev pub AreCommands : ℕ → ℕ → List ℕ → Type 0
AreCommands count before bytes = (rest : List ℕ) × (plain_sents count before bytes ≡ Ok (sents_in count before bytes, rest))

-- what a walk over a list answers, and what it leaves
abbrev pub IsNext : {A : Type 0} → Option A → List A → List A → Type 0
IsNext None old new = (old ≡ []) × (new ≡ [])
IsNext (Some x) old new = old ≡ x ∷ new
