-- What is put of what is due is a packet's parts again.
use Rattle.std.proofs.Common.{◌≡◌, ◌∙◌, ap, ℕ, zero, suc, ◌+◌, ◌-◌, ◌^◌, ◌≤◌, ◌<◌, ◌⊎◌, inl, inr, Bool, true, false, cond, not, ◌&&◌, ◌||◌, ◌==◌, List, [], ◌∷◌, length, take, drop, get_or, refl, arith}
use Rattle.std.specs.Prelude.{nat_le, nat_lt}
use Rattle.std.specs.List.{AllByRecursion}
use Rattle.std.proofs.lemmas.Bool.{and_parts, and_from, or_parts, leb-true, le-leb, leb-false, ltb-true, lt-ltb}
use Rattle.std.proofs.lemmas.Bool.Decides.{nat_tests}
use Rattle.std.proofs.lemmas.List.{length-take, length-drop}
use Rattle.peer_packet.specs.declared.part.PartHead.{PartHead}
use Rattle.peer_packet.specs.declared.terms.Terms.{Terms}
use Rattle.peer_packet.specs.Packet.{Sent, Part, Packet, head_of, part_bytes, is_part, AreSent, IsPart, AreParts, IsPacket}
use Rattle.peer_packet.specs.declared.cursor.Cursor.{Cursor}
use Rattle.peer_packet.specs.Filling.{Filled, last_time, later_part, first_part, behind_cursor, or_all, from_cursor, fitting, ends_before, filled, put_in, at_start, weight}
use Rattle.peer_packet.proofs.Goes.{Rises, filled-less, starts}
use Rattle.peer_packet.proofs.Cursors.{all-wait, filled-after, from-start, waits-less}

-- ---- commands

pub take-sent : (payload before k : ℕ) (cs : List Sent) → AreSent payload before cs → AreSent payload before (take k cs)
take-sent payload before zero cs h = tt
take-sent payload before (suc k) [] h = tt
take-sent payload before (suc k) (c ∷ cs) h = (h.0, take-sent payload c.time k cs h.1)

pub drop-sent : (payload before k : ℕ) (cs : List Sent) → AreSent payload before cs → AreSent payload (last_time before (take k cs)) (drop k cs)
unfolding last_time
drop-sent payload before zero cs h = h
drop-sent payload before (suc k) [] h = tt
drop-sent payload before (suc k) (c ∷ cs) h = drop-sent payload c.time k cs h.1

pub last-short : (payload before k : ℕ) (cs : List Sent) → before < 2 ^ 32 → AreSent payload before cs → last_time before (take k cs) < 2 ^ 32
unfolding last_time
last-short payload before zero cs b h = b
last-short payload before (suc k) [] b h = b
last-short payload before (suc k) (c ∷ cs) b h = last-short payload c.time k cs h.0.time h.1

-- ---- a part

-- a part may begin so
abbrev pub begins : PartHead → Bool
begins h = nat_lt 0 h.first || (h.before == 0 && nat_lt 0 h.count)

-- what the test of a head tells
pub record Stands (slots to : ℕ) (have : List ℕ) (least : ℕ) (h : PartHead) : Type 0 where
  pub low : nat_le least h.origin ≡ true
  pub slot : nat_lt h.origin slots ≡ true
  pub other : not (h.origin == to) ≡ true
  pub within : nat_le (h.first + h.count) (get_or have h.origin 0) ≡ true
  pub begun : begins h ≡ true

pub stands : (slots to : ℕ) (have : List ℕ) (least : ℕ) (h : PartHead) → is_part slots to have least h ≡ true → Stands slots to have least h
stands slots to have least h is =
    let w = nat_le (h.first + h.count) (get_or have h.origin 0) in
    let a = and_parts (nat_le least h.origin) (nat_lt h.origin slots && (not (h.origin == to) && (w && begins h))) is in
    let b = and_parts (nat_lt h.origin slots) (not (h.origin == to) && (w && begins h)) a.1 in
    let c = and_parts (not (h.origin == to)) (w && begins h) b.1 in
    let d = and_parts w (begins h) c.1 in
    record { low = a.0; slot = b.0; other = c.0; within = d.0; begun = d.1 }

pub stands-is : (slots to : ℕ) (have : List ℕ) (least : ℕ) (h : PartHead) → Stands slots to have least h → is_part slots to have least h ≡ true
stands-is slots to have least h s =
    let w = nat_le (h.first + h.count) (get_or have h.origin 0) in
    and_from (nat_le least h.origin) (nat_lt h.origin slots && (not (h.origin == to) && (w && begins h))) s.low
    (and_from (nat_lt h.origin slots) (not (h.origin == to) && (w && begins h)) s.slot
    (and_from (not (h.origin == to)) (w && begins h) s.other (and_from w (begins h) s.within s.begun)))

-- a head of the same slot with another first number, and no further reach
is-part : (slots to : ℕ) (have : List ℕ) (least : ℕ) (h : PartHead) (first count before : ℕ) → first + count ≤ h.first + h.count
    → begins (record { origin = h.origin; count = count; first = first; before = before }) ≡ true
    → is_part slots to have least h ≡ true → is_part slots to have least (record { origin = h.origin; count = count; first = first; before = before }) ≡ true
is-part slots to have least h first count before fewer begun is =
    let s = stands slots to have least h is in
    let within = leb-true (h.first + h.count) (get_or have h.origin 0) s.within in
    stands-is slots to have least (record { origin = h.origin; count = count; first = first; before = before })
    (record { low = s.low; slot = s.slot; other = s.other; within = le-leb (first + count) (get_or have h.origin 0) (omega arith); begun = begun })

-- the first commands of a part, some where it has some
first-is : (slots to : ℕ) (have : List ℕ) (least payload k : ℕ) (p : Part) → (0 < length p.commands → 0 < k)
    → IsPart (is_part slots to have least) payload p → IsPart (is_part slots to have least) payload (first_part k p)
first-is slots to have least payload k p some h =
    let short = length-take k p.commands in
    let count = h.count in
    let all = stands slots to have least (head_of p) h.head in
    let begun : (nat_lt 0 p.first || (p.before == 0 && nat_lt 0 (length (take k p.commands)))) ≡ true =
    elim (nat_lt 0 p.first) as (λ v. (v || (p.before == 0 && nat_lt 0 (length p.commands))) ≡ true → (v || (p.before == 0 && nat_lt 0 (length (take k p.commands)))) ≡ true) [
      | true ↦ λ e. refl
      | false ↦ λ e. (let both = and_parts (p.before == 0) (nat_lt 0 (length p.commands)) e in
          let there = ltb-true 0 (length p.commands) both.1 in
          let k-some = some there in
          and_from (p.before == 0) (nat_lt 0 (length (take k p.commands))) both.0 (lt-ltb 0 (length (take k p.commands)) (omega arith)))
    ]
    all.begun in
    record {
      count = omega arith;
      first = h.first;
      before = h.before;
      head = is-part slots to have least (head_of p) p.first (length (take k p.commands)) p.before (omega arith) begun h.head;
      commands = take-sent payload p.before k p.commands h.commands;
    }

-- a part without its first commands
later-is : (slots to : ℕ) (have : List ℕ) (least payload k : ℕ) (p : Part) → 0 < k → k < length p.commands → p.first + length p.commands < 2 ^ 32
    → IsPart (is_part slots to have least) payload p → IsPart (is_part slots to have least) payload (later_part k p)
later-is slots to have least payload k p some less reach h =
    let short = length-drop k p.commands in
    let count = h.count in
    let first : nat_lt 0 (p.first + k) ≡ true = lt-ltb 0 (p.first + k) (omega arith) in
    record {
      count = omega arith;
      first = omega arith;
      before = last-short payload p.before k p.commands h.before h.commands;
      head = is-part slots to have least (head_of p) (p.first + k) (length (drop k p.commands)) (last_time p.before (take k p.commands)) (omega arith) (rw first refl) h.head;
      commands = drop-sent payload p.before k p.commands h.commands;
    }

-- ---- parts

module _ (slots to : ℕ) (have : List ℕ) (payload : ℕ) (small : (o : ℕ) → get_or have o 0 < 2 ^ 32) where
  lower : (least less : ℕ) (ps : List Part) → less ≤ least → AreParts (is_part slots to have) payload least ps → AreParts (is_part slots to have) payload less ps
  lower least less [] le h = tt
  lower least less (p ∷ ps) le h =
      let s = stands slots to have least (head_of p) h.0.head in
      let low = leb-true least p.origin s.low in
      let head = stands-is slots to have less (head_of p) (record { low = le-leb less p.origin (omega arith); slot = s.slot; other = s.other; within = s.within; begun = s.begun }) in
      (record { count = h.0.count; first = h.0.first; before = h.0.before; head = head; commands = h.0.commands }, h.1)

  -- without the first
  behind-first : (least : ℕ) (p : Part) (ps : List Part) → AreParts (is_part slots to have) payload least (p ∷ ps) → AreParts (is_part slots to have) payload least ps
  behind-first least p ps h =
      let s = stands slots to have least (head_of p) h.0.head in
      let low = leb-true least p.origin s.low in
      lower (p.origin + 1) least ps (omega arith) h.1

  behind-are : (c : Cursor) (least : ℕ) (ps : List Part) → AreParts (is_part slots to have) payload least ps → AreParts (is_part slots to have) payload least (behind_cursor c ps)
  unfolding behind_cursor
  behind-are c least [] h = tt
  behind-are c least (p ∷ ps) h =
      let k = c.number - p.first in
      elim (nat_lt p.origin c.slot) as (λ v. AreParts (is_part slots to have) payload least (cond v (behind_cursor c ps) (cond (nat_lt c.slot p.origin || nat_le c.number p.first) (p ∷ ps) (cond (nat_le (p.first + length p.commands) c.number) ps (later_part k p ∷ ps))))) [
        | true ↦ behind-are c least ps (behind-first least p ps h)
        | false ↦ elim (nat_lt c.slot p.origin || nat_le c.number p.first) as (λ v. (nat_lt c.slot p.origin || nat_le c.number p.first) ≡ v → AreParts (is_part slots to have) payload least (cond v (p ∷ ps) (cond (nat_le (p.first + length p.commands) c.number) ps (later_part k p ∷ ps)))) [
          | true ↦ λ e. h
          | false ↦ λ e. elim (nat_le (p.first + length p.commands) c.number) as (λ v. nat_le (p.first + length p.commands) c.number ≡ v → AreParts (is_part slots to have) payload least (cond v ps (later_part k p ∷ ps))) [
            | true ↦ λ l. behind-first least p ps h
            | false ↦ λ l.
                let above = leb-false c.number p.first (or_parts (nat_lt c.slot p.origin) (nat_le c.number p.first) e).1 in
                let below = leb-false (p.first + length p.commands) c.number l in
                let s = stands slots to have least (head_of p) h.0.head in
                let within = leb-true (p.first + length p.commands) (get_or have p.origin 0) s.within in
                let few = small p.origin in
                (later-is slots to have least payload k p (omega arith) (omega arith) (omega arith) h.0, h.1)
          ] refl
        ] refl
      ]

  or_all-are : (least : ℕ) (due ps : List Part) → AreParts (is_part slots to have) payload least due → AreParts (is_part slots to have) payload least ps → AreParts (is_part slots to have) payload least (or_all due ps)
  or_all-are least due [] h g = h
  or_all-are least due (p ∷ ps) h g = g

  filled-are : (room least : ℕ) (ps : List Part) → AreParts (is_part slots to have) payload least ps → AreParts (is_part slots to have) payload least (filled room ps).parts
  unfolding filled
  filled-are room least [] h = tt
  filled-are room least (p ∷ ps) h =
      let fit = fitting (room - 11) p.commands in
      let stop : Filled = record { parts = []; cursor = record { slot = p.origin; number = p.first } } in
      let short : Filled = record { parts = first_part fit p ∷ []; cursor = record { slot = p.origin; number = p.first + fit } } in
      let more = filled (room - length (part_bytes p)) ps in
      let whole : Filled = record { parts = p ∷ more.parts; cursor = more.cursor } in
      elim (ends_before room p) as (λ v. ends_before room p ≡ v → AreParts (is_part slots to have) payload least (cond v stop (cond (nat_lt fit (length p.commands)) short whole)).parts) [
        | true ↦ λ e. tt
        | false ↦ λ e. elim (nat_lt fit (length p.commands)) as (λ v. AreParts (is_part slots to have) payload least (cond v short whole).parts) [
          | true ↦ (
            first-is slots to have least payload fit p (λ some.
                let none = (or_parts (nat_lt room 11) (nat_lt 0 (length p.commands) && (fit == 0)) e).1 in
                let there = lt-ltb 0 (length p.commands) some in
                let zero : (fit == 0) ≡ false = rw there at none in
                grind (arith, nat_tests)) h.0,
            tt,
          )
          | false ↦ (h.0, filled-are (room - length (part_bytes p)) (p.origin + 1) ps h.1)
        ]
      ] refl

small-counts : (have : List ℕ) → AllByRecursion (λ n. n < 2 ^ 32) have → (o : ℕ) → get_or have o 0 < 2 ^ 32
small-counts [] h o = omega arith
small-counts (n ∷ ns) h zero = h.0
small-counts (n ∷ ns) h (suc o) = small-counts ns h.1 o

-- a packet of what is due stays a packet of what is put of it
pub put-packet : (terms : Terms) (p : Packet) (c : Cursor) (room : ℕ) → IsPacket terms p → IsPacket terms (record p { parts = (put_in c room p.parts).parts })
put-packet terms p c room h =
    let small = small-counts p.have h.counts in
    record {
      ends = h.ends;
      clock = h.clock;
      echo = h.echo;
      slots = h.slots;
      counts = h.counts;
      mark = h.mark;
      parts = filled-are terms.slots p.to p.have terms.payload small room 0 (from_cursor c p.parts)
          (or_all-are terms.slots p.to p.have terms.payload small 0 p.parts (behind_cursor c p.parts) h.parts (behind-are terms.slots p.to p.have terms.payload small c 0 p.parts h.parts));
    }

pub rises : (slots to : ℕ) (have : List ℕ) (payload least : ℕ) (ps : List Part) → AreParts (is_part slots to have) payload least ps → Rises least ps
unfolding Rises
rises slots to have payload least [] h = tt
rises slots to have payload least (p ∷ ps) h =
    let s = stands slots to have least (head_of p) h.0.head in
    (leb-true least p.origin s.low, rises slots to have payload (p.origin + 1) ps h.1)

-- ---- going on

goes-by : (slots to : ℕ) (have : List ℕ) (payload room least : ℕ) (ps : List Part) → 16 + payload ≤ room → AreParts (is_part slots to have) payload least ps → 0 < length ps
    → let f = filled room ps in ((f.parts ≡ ps) × (f.cursor ≡ at_start)) ⊎ (weight (behind_cursor f.cursor ps) < weight ps)
goes-by slots to have payload room least [] enough are some = absurd omega (arith, some)
goes-by slots to have payload room least (p ∷ ps) enough are some =
    filled-less room least p ps (rises slots to have payload least (p ∷ ps) are) (starts room payload p.before p enough are.0.commands)

-- of all that is due
pub packet-goes : (terms : Terms) (p : Packet) (c : Cursor) (room : ℕ) → IsPacket terms p → 16 + terms.payload ≤ room → 0 < length (behind_cursor c p.parts)
    → let f = filled room (behind_cursor c p.parts) in
    ((f.parts ≡ behind_cursor c p.parts) × (f.cursor ≡ at_start)) ⊎ (weight (behind_cursor f.cursor p.parts) < weight (behind_cursor c p.parts))
packet-goes terms p c room h enough some =
    let due = p.parts in
    let waits = behind_cursor c due in
    let f = filled room waits in
    let are = behind-are terms.slots p.to p.have terms.payload (small-counts p.have h.counts) c 0 due h.parts in
    let goes = goes-by terms.slots p.to p.have terms.payload room 0 waits enough are some in
    let rise = rises terms.slots p.to p.have terms.payload 0 due h.parts in
    elim goes [
      | inl all ↦ inl all
      | inr less ↦ elim (filled-after c room waits (all-wait c 0 due rise)) [
        | inl at ↦ absurd (let same = ap weight (ap (λ (d : Cursor). behind_cursor d waits) at ∙ from-start waits) in omega arith)
        | inr after ↦ inr (let more = waits-less c f.cursor 0 due rise after in omega arith)
      ]
    ]
