-- What a packet is, and its bytes.
use Rattle.std.specs.Prelude.{Bool, List, None, Option, Some, [], if◌then◌else◌, length, nat_le, nat_lt, not, get_or, true, ℕ, ◌&&◌, ◌*◌, ◌+◌, ◌++◌, ◌<◌, ◌==◌, ◌^◌, ◌||◌, ◌∷◌, ◌≡◌, ◌≤◌, IfSome}
use Rattle.std.specs.Int.{to_le_bytes, w16, w32, w64}
use Rattle.std.specs.List.{AllByRecursion, flat_map}
use Rattle.peer_packet.specs.declared.front.Front.{Front}
use Rattle.peer_packet.specs.declared.part.PartHead.{PartHead}
use Rattle.peer_packet.specs.declared.terms.Terms.{Terms}

-- a command as it is sent: the tick that it is due at, and its payload
pub record Sent : Type 0 where
  pub time : ℕ
  pub payload : List ℕ

-- a piece of what a slot issued: its commands numbered first, first + 1, ..; number first - 1 is
-- due at `before`
pub record Part : Type 0 where
  pub origin : ℕ
  pub first : ℕ
  pub before : ℕ
  pub commands : List Sent

-- who says it to whom, at which clock, the newest clock of the other that was heard, how many
-- commands of each slot the sender has, its newest mark, and what it hands on
pub record Packet : Type 0 where
  pub from : ℕ
  pub to : ℕ
  pub clock : ℕ
  pub echo : ℕ
  pub have : List ℕ
  pub mark : Option (ℕ × ℕ)
  pub parts : List Part

-- ---- bytes

abbrev pub sent_bytes : Sent → List ℕ
sent_bytes c = to_le_bytes w32 c.time ++ length c.payload ∷ c.payload

abbrev pub head_of : Part → PartHead
head_of p = record { origin = p.origin; count = length p.commands; first = p.first; before = p.before }

abbrev pub head_bytes : PartHead → List ℕ
head_bytes h =
    h.origin ∷ to_le_bytes w16 h.count ++ (to_le_bytes w32 h.first ++ to_le_bytes w32 h.before)

abbrev pub part_bytes : Part → List ℕ
part_bytes p = head_bytes (head_of p) ++ flat_map sent_bytes p.commands

-- a bit for each slot that has issued, slot 0's the lowest
abbrev pub bit_of : ℕ → ℕ
bit_of n = if nat_lt 0 n then 1 else 0

unfoldable pub mask_of : List ℕ → ℕ
mask_of [] = 0
mask_of (n ∷ ns) = bit_of n + 2 * mask_of ns

-- the counts of the slots that have issued
abbrev pub count_bytes : ℕ → List ℕ
count_bytes n = if nat_lt 0 n then to_le_bytes w32 n else []

unfoldable pub counts_bytes : List ℕ → List ℕ
counts_bytes [] = []
counts_bytes (n ∷ ns) = count_bytes n ++ counts_bytes ns

abbrev pub vector_bytes : List ℕ → List ℕ
vector_bytes have = to_le_bytes w64 (mask_of have) ++ counts_bytes have

abbrev pub flag_of : Option (ℕ × ℕ) → ℕ
flag_of None = 0
flag_of (Some mark) = 1

abbrev pub mark_bytes : Option (ℕ × ℕ) → List ℕ
mark_bytes None = []
mark_bytes (Some mark) = to_le_bytes w32 mark.0 ++ to_le_bytes w32 mark.1

-- who says it to whom, and when
abbrev pub front_text : ℕ → Front → List ℕ
front_text session f =
    1 ∷ to_le_bytes w64 session
    ++ (f.from ∷ f.to ∷ f.flag ∷ to_le_bytes w32 f.clock ++ to_le_bytes w32 f.echo)

abbrev pub front_of : Packet → Front
front_of p = record { from = p.from; to = p.to; flag = flag_of p.mark; clock = p.clock; echo = p.echo }

-- the one text of a packet of a session
abbrev pub bytes_of : ℕ → Packet → List ℕ
bytes_of session p =
    front_text session (front_of p) ++ (vector_bytes p.have ++ (mark_bytes p.mark ++ flat_map part_bytes p.parts))

-- ---- which packets there are

abbrev pub are_ends : ℕ → ℕ → ℕ → Bool
are_ends slots from to = nat_lt from slots && (nat_lt to slots && not (from == to))

-- a part with this head may stand in a packet to `to`, behind parts of origins below `least`
abbrev pub is_part : ℕ → ℕ → List ℕ → ℕ → PartHead → Bool
is_part slots to have least h =
    nat_le least h.origin && (nat_lt h.origin slots
    && (not (h.origin == to) && (nat_le (h.first + h.count) (get_or have h.origin 0)
    && (nat_lt 0 h.first || (h.before == 0 && nat_lt 0 h.count)))))

-- a command may stand behind one that is due at `before`
pub record IsSent (payload before : ℕ) (c : Sent) : Type 0 where
  pub time : c.time < 2 ^ 32
  pub follows : (nat_le before c.time && nat_le (length c.payload) payload) ≡ true

abbrev pub AreSent : ℕ → ℕ → List Sent → Type 0
AreSent payload before [] = Unit {0}
AreSent payload before (c ∷ cs) = IsSent payload before c × AreSent payload c.time cs

-- a part whose head passes this test
pub record IsPart (test : PartHead → Bool) (payload : ℕ) (p : Part) : Type 0 where
  pub count : length p.commands < 2 ^ 16
  pub first : p.first < 2 ^ 32
  pub before : p.before < 2 ^ 32
  pub head : test (head_of p) ≡ true
  pub commands : AreSent payload p.before p.commands

-- parts of origins from `least` on, each above the one before
abbrev pub AreParts : (ℕ → PartHead → Bool) → ℕ → ℕ → List Part → Type 0
AreParts test payload least [] = Unit {0}
AreParts test payload least (p ∷ ps) =
    IsPart (test least) payload p × AreParts test payload (p.origin + 1) ps

-- a session's terms
pub record AreTerms (terms : Terms) : Type 0 where
  pub session : terms.session < 2 ^ 64
  pub slots : terms.slots ≤ 64
  pub payload : terms.payload ≤ 64

-- a packet of a session
pub record IsPacket (terms : Terms) (p : Packet) : Type 0 where
  pub ends : are_ends terms.slots p.from p.to ≡ true
  pub clock : p.clock < 2 ^ 32
  pub echo : p.echo < 2 ^ 32
  pub slots : length p.have ≡ terms.slots
  pub counts : AllByRecursion (λ n. n < 2 ^ 32) p.have
  pub mark : IfSome p.mark (λ m. (m.0 < 2 ^ 32) × (m.1 < 2 ^ 32))
  pub parts : AreParts (is_part terms.slots p.to p.have) terms.payload 0 p.parts
