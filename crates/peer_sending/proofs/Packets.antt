-- What a packet is made of, of a peer's state.
use Rattle.std.proofs.Common.{◌≡◌, ℕ, zero, suc, ◌+◌, ◌-◌, ◌^◌, ◌≤◌, ◌<◌, max, Bool, true, false, cond, not, ◌==◌, ◌&&◌, ◌||◌, nat_lt, nat_le, Option, Some, None, List, [], ◌∷◌, ◌++◌, map, length, take, drop, get_or, refl, ap, sym, subst, ◌∙◌, append_assoc, arith}
use Rattle.std.specs.Prelude.{IfSome}
use Rattle.std.specs.List.{AllByRecursion, range_with_len, flat_map}
use Rattle.std.proofs.Math.ListN.{length-map, length-take, length-drop}
use Rattle.std.proofs.lemmas.List.{take-map, drop-map, map-append}
use Rattle.std.proofs.lemmas.List.Concat.{flat_map-cons}
use Rattle.std.proofs.lemmas.List.FromFn.{length-map-range_with_len, get_or-map-range_with_len}
use Rattle.std.proofs.lemmas.Bool.{and_from, and_parts, le-leb, leb-true, ltb-true, ltb-false, lt-ltb, le-ltb}
use Rattle.std.proofs.lemmas.Bool.Decides.{nat_tests}
use Rattle.peer_model.specs.Queue.{Sent, Queue, TimesRise, have_of, last_time}
use Rattle.peer_model.specs.Peer.{Span}
use Rattle.peer_model.specs.Due.{end_from, due_from, listed, due_spans}
use Rattle.peer_model.proofs.Progress.{end-within}
use Rattle.peer_packet.specs.Packet as wire
use Rattle.peer_packet.specs.Packet.{AreSent, IsPart, AreParts, AreTerms, IsPacket, is_part, head_of, bytes_of, part_bytes}
use Rattle.peer_packet.specs.Filling as fill
use Rattle.peer_packet.specs.declared.cursor.Cursor.{Cursor}
use Rattle.peer_packet.specs.Filling.{Filled, put_in, weight}
use Rattle.peer_packet.specs.Putting.{Puts}
use Rattle.peer_packet.proofs.PutLaws.{Puts-then, Puts-of}
use Rattle.peer_packet.proofs.FilledLaws.{take-sent, drop-sent, last-short, stands, stands-is, put-packet}
use Rattle.peer_calls.specs.declared.config.Config.{Config}
use Rattle.peer_calls.specs.declared.answers.PacketAnswer.TheVariants.{Short, Made}
use Rattle.peer_calls.specs.State.{State, clock_now, newest_clock}
use Rattle.peer_calls.specs.Wire.{as_sent}
use Rattle.peer_calls.specs.Sending.{counts_of, newest_mark, span_part, due_parts, head_for, head_length, filled_for, packet_for, packet_bytes, is_other, is_more, said_to_packet, after_packet}
use Rattle.peer_model.specs.Peer.{put}
use Rattle.peer_sending.specs.Supply.{Supply, IsLegal, supply_in, due_at, all_due}
use Rattle.peer_sending.proofs.Walks.{flat-more}

-- ---- what is due, slot by slot

due-to : (s : Supply) (n : ℕ) → map (span_part s.queues) (due_spans s.me s.relay s.to s.queues s.known s.clock n) ≡ flat_map (due_at s) (range_with_len 0 n)
unfolding due_spans
due-to s zero = refl
due-to s (suc n) =
    let spans = due_spans s.me s.relay s.to s.queues s.known s.clock n in
    map-append (span_part s.queues) spans (cond (n == s.to) [] (listed (due_from s.me s.relay n s.queues s.known s.clock)))
    ∙ ap (λ (l : List wire.Part). l ++ due_at s n) (due-to s n)
    ∙ sym (flat-more (due_at s) 0 n n (omega arith))

pub due-all : {W : Type 0} (c : Config) (to : ℕ) (s : State W) → due_parts c to s ≡ all_due (supply_in c to s)
due-all c to s = due-to (supply_in c to s) c.terms.slots

-- ---- bytes

regroup : (f v m p : List ℕ) → f ++ (v ++ (m ++ p)) ≡ (f ++ (v ++ (m ++ []))) ++ p
regroup f v m p =
    sym (append_assoc f (v ++ (m ++ [])) p
    ∙ ap (λ (l : List ℕ). f ++ l) (append_assoc v (m ++ []) p ∙ ap (λ (l : List ℕ). v ++ l) (append_assoc m [] p)))

pub text-of : (session : ℕ) (h : wire.Packet) (ps : List wire.Part) → bytes_of session (record h { parts = ps }) ≡ bytes_of session (record h { parts = [] }) ++ flat_map part_bytes ps
text-of session h ps = regroup (wire.front_text session (wire.front_of h)) (wire.vector_bytes h.have) (wire.mark_bytes h.mark) (flat_map part_bytes ps)

-- ---- answers

pub other-is : (to me slots : ℕ) → to < slots → (to == me) ≡ false → (nat_lt to slots && not (to == me)) ≡ true
other-is to me slots less other = and_from (nat_lt to slots) (not (to == me)) (lt-ltb to slots less) (ap not other)

module _ {W : Type 0} (c : Config) (to room : ℕ) (s : State W) (other : is_other c to s ≡ true) where
  pub said-short : (size : ℕ) → size ≡ head_length c to s → room < size → Short size ≡ said_to_packet c to room s
  said-short size is less =
      let e : nat_lt room (head_length c to s) ≡ true = lt-ltb room (head_length c to s) (omega arith) in
      rw (other, e) (ap Short is)

  pub said-made : (more : Bool) (size : ℕ) → head_length c to s ≤ room → more ≡ is_more c to room s → size ≡ length (packet_bytes c to room s) → Made more size ≡ said_to_packet c to room s
  said-made more size enough m is =
      let e : nat_lt room (head_length c to s) ≡ false = le-ltb room (head_length c to s) enough in
      rw (other, e) ((ap (λ (b : Bool). Made b size) m) ∙ ap (Made (is_more c to room s)) is)

  pub after-short : room < head_length c to s → s ≡ after_packet c to room s
  after-short less =
      let e : nat_lt room (head_length c to s) ≡ true = lt-ltb room (head_length c to s) less in
      rw (other, e) refl

  pub after-made : head_length c to s ≤ room → record s { cursor = put to (filled_for c to room s).cursor s.cursor } ≡ after_packet c to room s
  after-made enough =
      let e : nat_lt room (head_length c to s) ≡ false = le-ltb room (head_length c to s) enough in
      rw (other, e) refl

-- ---- it is a packet of the session

last-as : (t : ℕ) (xs : List Sent) → fill.last_time t (map as_sent xs) ≡ last_time t xs
unfolding last_time fill.last_time
last-as t [] = refl
last-as t (x ∷ xs) = last-as x.time xs

last-up : (t : ℕ) (xs : List Sent) → TimesRise t xs → t ≤ last_time t xs
unfolding TimesRise last_time
last-up t [] h = omega arith
last-up t (x ∷ xs) h = (let more = last-up x.time xs h.1 in let up = h.0 in omega arith)

-- all that a legal queue remembers
sents : (payload t : ℕ) (xs : List Sent) → TimesRise t xs → last_time t xs < 2 ^ 32 → AllByRecursion (λ (x : Sent). length x.bytes ≤ payload) xs → AreSent payload t (map as_sent xs)
unfolding TimesRise last_time
sents payload t [] rise last short = tt
sents payload t (x ∷ xs) rise last short =
    let up = last-up x.time xs rise.1 in
    let follows = and_from (nat_le t x.time) (nat_le (length x.bytes) payload) (le-leb t x.time rise.0) (le-leb (length x.bytes) payload short.0) in
    (record { time = omega arith; follows = follows }, sents payload x.time xs rise.1 last short.1)

-- the part of a span, of all that is remembered
cut-is : (queues : ℕ → Queue) (s : Span)
    → span_part queues s ≡ record {
      origin = s.origin;
      first = s.first;
      before = fill.last_time (queues s.origin).gone (take (s.first - (queues s.origin).kept) (map as_sent (queues s.origin).commands));
      commands = take s.count (drop (s.first - (queues s.origin).kept) (map as_sent (queues s.origin).commands));
    }
cut-is queues s =
    let q = queues s.origin in
    let k = s.first - q.kept in
    let before : last_time q.gone (take k q.commands) ≡ fill.last_time q.gone (take k (map as_sent q.commands)) =
    sym (ap (fill.last_time q.gone) (take-map as_sent k q.commands) ∙ last-as q.gone (take k q.commands)) in
    let commands : map as_sent (take s.count (drop k q.commands)) ≡ take s.count (drop k (map as_sent q.commands)) =
    sym (ap (take s.count) (drop-map as_sent k q.commands) ∙ take-map as_sent s.count (drop k q.commands)) in
    λ i. record { origin = s.origin; first = s.first; before = before i; commands = commands i }

-- a span that may stand in a packet
pub record MayStand (q : Queue) (s : Span) : Type 0 where
  pub low : q.kept ≤ s.first
  pub high : s.first + s.count ≤ have_of q
  pub begins : s.first ≡ 0 → 0 < s.count

due-may : (me relay o : ℕ) (queues : ℕ → Queue) (known : ℕ → ℕ) (clock : ℕ) → IfSome (due_from me relay o queues known clock) (λ s. (s.origin ≡ o) × MayStand (queues o) s)
due-may me relay o queues known clock =
    let q = queues o in
    let e = end_from me relay o queues clock in
    let ends = end-within me relay o queues clock in
    let low = ends.0 in
    let high = ends.1 in
    let first = max (known o) q.kept in
    let Good : Option Span → Type 0 = λ x. IfSome x (λ s. (s.origin ≡ o) × MayStand q s) in
    let one : Span = record { origin = o; first = first; count = e - first } in
    let none : Span = record { origin = o; first = q.kept; count = 0 } in
    elim (nat_lt first e) as (λ v. nat_lt first e ≡ v → Good (cond v (Some one) (cond (nat_lt (known o) q.kept && (q.kept == e)) (Some none) None))) [
      | true ↦ λ l. (let below = ltb-true first e l in (refl, record { low = omega arith; high = omega arith; begins = λ z. omega arith }))
      | false ↦ λ l. elim (nat_lt (known o) q.kept) as (λ v. nat_lt (known o) q.kept ≡ v → Good (cond (v && (q.kept == e)) (Some none) None)) [
        | true ↦ λ k. (let over = ltb-true (known o) q.kept k in elim (q.kept == e) as (λ v. Good (cond v (Some none) None))
            [ true ↦ (refl, record { low = omega arith; high = omega arith; begins = λ z. absurd (omega arith) }) | false ↦ tt ])
        | false ↦ λ k. tt
      ] refl
    ]
    refl

module _ (slots to payload : ℕ) (queues : ℕ → Queue) (legal : (o : ℕ) → o < slots → IsLegal (queues o))
    (short : (o : ℕ) → AllByRecursion (λ (x : Sent). length x.bytes ≤ payload) (queues o).commands) where
  span-part : (o : ℕ) (s : Span) → o < slots → (o == to) ≡ false → s.origin ≡ o → MayStand (queues o) s → IsPart (is_part slots to (counts_of slots queues) o) payload (span_part queues s)
  unfolding fill.last_time
  span-part o s there other origin may =
      let q = queues o in
      let good = legal o there in
      let k = s.first - q.kept in
      let cs = map as_sent q.commands in
      let low = may.low in
      let high = may.high in
      let few = good.few in
      let numbers = good.numbers in
      let times = good.times in
      let up = last-up q.gone q.commands good.rising in
      let sent = sents payload q.gone q.commands good.rising good.times (short o) in
      let before = fill.last_time q.gone (take k cs) in
      let commands = take s.count (drop k cs) in
      let all = length-map q.commands as_sent in
      let left = length-drop k cs in
      let took = length-take s.count (drop k cs) in
      let counted : get_or (counts_of slots queues) o 0 ≡ have_of q = get_or-map-range_with_len (λ (p : ℕ). have_of (queues p)) 0 slots o o 0 there (omega arith) in
      let begun : (nat_lt 0 s.first || (before == 0 && nat_lt 0 (length commands))) ≡ true =
      elim (nat_lt 0 s.first) as (λ v. nat_lt 0 s.first ≡ v → (v || (before == 0 && nat_lt 0 (length commands))) ≡ true) [
        | true ↦ λ e. refl
        | false ↦ λ e.
            let zero_first = ltb-false 0 s.first e in
            let none : s.first ≡ 0 = omega arith in
            let some = may.begins none in
            let kept : q.kept ≡ 0 = omega arith in
            let gone = good.nothing_gone kept in
            let at : k ≡ 0 = omega arith in
            let is : before ≡ 0 = ap (λ (n : ℕ). fill.last_time q.gone (take n cs)) at ∙ gone in
            and_from (before == 0) (nat_lt 0 (length commands)) (ap (λ (n : ℕ). n == 0) is) (lt-ltb 0 (length commands) (omega arith))
      ] refl in
      let head : is_part slots to (counts_of slots queues) o (record { origin = o; count = length commands; first = s.first; before = before }) ≡ true =
      stands-is slots to (counts_of slots queues) o (record { origin = o; count = length commands; first = s.first; before = before })
      (record {
        low = le-leb o o (omega arith);
        slot = lt-ltb o slots there;
        other = ap not other;
        within = le-leb (s.first + length commands) (get_or (counts_of slots queues) o 0) (omega arith);
        begun = begun;
      }) in
      let is : IsPart (is_part slots to (counts_of slots queues) o) payload (record { origin = o; first = s.first; before = before; commands = commands }) = record {
        count = omega arith;
        first = omega arith;
        before = last-short payload q.gone k cs (omega arith) sent;
        head = head;
        commands = take-sent payload before s.count (drop k cs) (drop-sent payload q.gone k cs sent);
      } in
      let cut : span_part queues (record { origin = o; first = s.first; count = s.count }) ≡ record { origin = o; first = s.first; before = before; commands = commands } = cut-is queues (record { origin = o; first = s.first; count = s.count }) in
      subst (λ (p : wire.Part). IsPart (is_part slots to (counts_of slots queues) o) payload p)
      (sym cut ∙ ap (λ (n : ℕ). span_part queues (record { origin = n; first = s.first; count = s.count })) (sym origin)) is

  lower : (least less : ℕ) (ps : List wire.Part) → less ≤ least → AreParts (is_part slots to (counts_of slots queues)) payload least ps → AreParts (is_part slots to (counts_of slots queues)) payload less ps
  lower least less [] le h = tt
  lower least less (p ∷ ps) le h =
      let s = stands slots to (counts_of slots queues) least (head_of p) h.0.head in
      let low = leb-true least p.origin s.low in
      let head = stands-is slots to (counts_of slots queues) less (head_of p) (record { low = le-leb less p.origin (omega arith); slot = s.slot; other = s.other; within = s.within; begun = s.begun }) in
      (record { count = h.0.count; first = h.0.first; before = h.0.before; head = head; commands = h.0.commands }, h.1)

  one-part : (o : ℕ) (d : Option Span) (ps : List wire.Part) → o < slots → (o == to) ≡ false → IfSome d (λ s. (s.origin ≡ o) × MayStand (queues o) s)
      → AreParts (is_part slots to (counts_of slots queues)) payload (o + 1) ps → AreParts (is_part slots to (counts_of slots queues)) payload o (map (span_part queues) (listed d) ++ ps)
  one-part o None ps there other may h = lower (o + 1) o ps (omega arith) h
  one-part o (Some s) ps there other may h =
      (span-part o s there other may.0 may.1, subst (λ (n : ℕ). AreParts (is_part slots to (counts_of slots queues)) payload (n + 1) ps) (sym may.0) h)

  pub slot-parts : (s : Supply) (o n : ℕ) → s.queues ≡ queues → s.to ≡ to → o + n ≤ slots → AreParts (is_part slots to (counts_of slots queues)) payload o (flat_map (due_at s) (range_with_len o n))
  slot-parts s o zero same whom within = tt
  slot-parts s o (suc n) same whom within =
      let more = slot-parts s (o + 1) n same whom (omega arith) in
      let ps = flat_map (due_at s) (range_with_len (o + 1) n) in
      let due = due_from s.me s.relay o s.queues s.known s.clock in
      let may = subst (λ (f : ℕ → Queue). IfSome due (λ x. (x.origin ≡ o) × MayStand (f o) x)) same (due-may s.me s.relay o s.queues s.known s.clock) in
      let Are : List wire.Part → Type 0 = AreParts (is_part slots to (counts_of slots queues)) payload o in
      let here : Are (map (span_part s.queues) (cond (o == s.to) [] (listed due)) ++ ps) =
      elim (o == s.to) as (λ v. (o == s.to) ≡ v → Are (map (span_part s.queues) (cond v [] (listed due)) ++ ps)) [
        | true ↦ λ e. lower (o + 1) o ps (omega arith) more
        | false ↦ λ e. subst (λ (f : ℕ → Queue). Are (map (span_part f) (listed due) ++ ps)) (sym same)
            (one-part o due ps (omega arith) (subst (λ (t : ℕ). (o == t) ≡ false) whom e) may more)
      ] refl in
      subst Are (sym (flat_map-cons (due_at s) o (range_with_len (o + 1) n))) here

counts-small : (slots a n : ℕ) (queues : ℕ → Queue) → a + n ≤ slots → ((o : ℕ) → o < slots → IsLegal (queues o)) → AllByRecursion (λ k. k < 2 ^ 32) (map (λ o. have_of (queues o)) (range_with_len a n))
counts-small slots a zero queues within legal = tt
counts-small slots a (suc n) queues within legal = ((legal a (omega arith)).numbers, counts-small slots (a + 1) n queues (omega arith) legal)

not-same : (a b : ℕ) → not (a == b) ≡ true → not (b == a) ≡ true
not-same a b e = grind (arith, nat_tests)

pub packet-is :
    {W : Type 0} (c : Config) (to room : ℕ) (s : State W) → AreTerms c.terms → s.me < c.terms.slots → is_other c to s ≡ true
    → clock_now s < 2 ^ 32 → newest_clock (s.newest to) < 2 ^ 32 → IfSome (newest_mark s.marks.own) (λ m. (m.0 < 2 ^ 32) × (m.1 < 2 ^ 32))
    → ((o : ℕ) → o < c.terms.slots → IsLegal (s.queues o)) → ((o : ℕ) → AllByRecursion (λ (x : Sent). length x.bytes ≤ c.terms.payload) (s.queues o).commands)
    → IsPacket c.terms (packet_for c to room s)
packet-is c to room s terms me other clock echo mark legal short =
    let slots = c.terms.slots in
    let both = and_parts (nat_lt to slots) (not (to == s.me)) other in
    let apart : not (s.me == to) ≡ true = not-same to s.me both.1 in
    let due : wire.Packet = record (head_for c to s) { parts = due_parts c to s } in
    let parts = subst (AreParts (is_part slots to (counts_of slots s.queues)) c.terms.payload 0) (sym (due-all c to s))
    (slot-parts slots to c.terms.payload s.queues legal short (supply_in c to s) 0 slots refl refl (omega arith)) in
    let is : IsPacket c.terms due = record {
      ends = and_from (nat_lt s.me slots) (nat_lt to slots && not (s.me == to)) (lt-ltb s.me slots me) (and_from (nat_lt to slots) (not (s.me == to)) both.0 apart);
      clock = clock;
      echo = echo;
      slots = length-map-range_with_len (λ (o : ℕ). have_of (s.queues o)) 0 slots;
      counts = counts-small slots 0 slots s.queues (omega arith) legal;
      mark = mark;
      parts = parts;
    } in
    put-packet c.terms due (s.cursor to) (room - head_length c to s) is

-- ---- how it is put

pub head-is :
    {W : Type 0} (c : Config) (to : ℕ) (s : State W) (h : wire.Packet) (clock echo slots : ℕ) (have : List ℕ) (mark : Option (ℕ × ℕ))
    → h ≡ record { from = s.me; to = to; clock = clock; echo = echo; have = have; mark = mark; parts = [] } → clock ≡ clock_now s → echo ≡ newest_clock (s.newest to)
    → have ≡ counts_of slots s.queues → slots ≡ c.terms.slots → mark ≡ newest_mark s.marks.own → h ≡ head_for c to s
head-is c to s h clock echo slots have mark is at heard counts all newest =
    let full : have ≡ counts_of c.terms.slots s.queues = counts ∙ ap (λ (n : ℕ). counts_of n s.queues) all in
    is ∙ (λ i. record { from = s.me; to = to; clock = at i; echo = heard i; have = full i; mark = newest i; parts = [] })

pub supply-is :
    {W : Type 0} (c : Config) (to : ℕ) (s : State W) (l : Supply) (clock slots : ℕ)
    → l ≡ record { me = s.me; to = to; slots = slots; clock = clock; relay = c.relay; queues = s.queues; known = s.known to } → slots ≡ c.terms.slots → clock ≡ clock_now s → l ≡ supply_in c to s
supply-is c to s l clock slots is all at =
    is ∙ (λ i. record { me = s.me; to = to; slots = all i; clock = at i; relay = c.relay; queues = s.queues; known = s.known to })

filled-is :
    {W : Type 0} (c : Config) (to room : ℕ) (s : State W) (cursor : Cursor) (left : ℕ) (l : Supply) → cursor ≡ s.cursor to → left ≡ room - head_length c to s → l ≡ supply_in c to s
    → put_in cursor left (all_due l) ≡ filled_for c to room s
filled-is c to room s cursor left l at rest is =
    ap (λ (d : Cursor). put_in d left (all_due l)) at
    ∙ ap (λ (n : ℕ). put_in (s.cursor to) n (all_due l)) rest
    ∙ ap (λ (x : Supply). put_in (s.cursor to) (room - head_length c to s) (all_due x)) is
    ∙ ap (put_in (s.cursor to) (room - head_length c to s)) (sym (due-all c to s))

more-is :
    {W : Type 0} (c : Config) (to room : ℕ) (s : State W) (f : Filled) (l : Supply) → f ≡ filled_for c to room s → l ≡ supply_in c to s
    → not (weight f.parts == weight (all_due l)) ≡ is_more c to room s
more-is c to room s f l put is =
    ap (λ (g : Filled). not (weight g.parts == weight (all_due l))) put
    ∙ ap (λ (ps : List wire.Part). not (weight (filled_for c to room s).parts == weight ps)) (ap all_due is ∙ sym (due-all c to s))

packet-puts :
    {W : Type 0} (c : Config) (to room : ℕ) (s : State W) (h : wire.Packet) (f : Filled) (old mid new : List ℕ) (at behind : ℕ) → h ≡ head_for c to s → f ≡ filled_for c to room s
    → Puts old mid 0 at (bytes_of c.terms.session h) → Puts mid new at behind (flat_map part_bytes f.parts) → Puts old new 0 behind (packet_bytes c to room s)
packet-puts c to room s h f old mid new at behind head put p q =
    let session = c.terms.session in
    Puts-of (ap (λ (x : wire.Packet). bytes_of session x ++ flat_map part_bytes f.parts) head
    ∙ ap (λ (g : Filled). bytes_of session (head_for c to s) ++ flat_map part_bytes g.parts) put
    ∙ sym (text-of session (head_for c to s) (filled_for c to room s).parts)) (Puts-then p q)

none-more : (n : ℕ) → 0 + n ≡ n
none-more n = omega arith

-- a packet was put into a buffer, and this cursor is left
pub record IsPut {W : Type 0} (c : Config) (to : ℕ) (s : State W) (old new : List ℕ) (more : Bool) (size : ℕ) (cursor : Cursor) : Type 0 where
  pub enough : head_length c to s ≤ length old
  pub bytes : Puts old new 0 size (packet_bytes c to (length old) s)
  pub goes_on : more ≡ is_more c to (length old) s
  pub left : cursor ≡ (filled_for c to (length old) s).cursor

pub is-put :
    {W : Type 0} (c : Config) (to : ℕ) (s : State W) (h : wire.Packet) (l : Supply) (size at behind : ℕ) (cursor next : Cursor) (more : Bool) (old mid new : List ℕ)
    → h ≡ head_for c to s → l ≡ supply_in c to s → cursor ≡ s.cursor to → size ≡ length (bytes_of c.terms.session h) → size ≤ length old → Puts old mid 0 at (bytes_of c.terms.session h)
    → (let f = put_in cursor (length mid - at) (all_due l) in Puts mid new at behind (flat_map part_bytes f.parts) × (next ≡ f.cursor) × (more ≡ not (weight f.parts == weight (all_due l))))
    → IsPut c to s old new more behind next
is-put c to s h l size at behind cursor next more old mid new head supply from is enough first rest =
    let long : size ≡ head_length c to s = is ∙ ap (λ (x : wire.Packet). length (bytes_of c.terms.session x)) head in
    let place = first.place in
    let same = first.same in
    let left : length mid - at ≡ length old - head_length c to s = omega (arith, place, same, is, long) in
    let put = filled-is c to (length old) s cursor (length mid - at) l from left supply in
    record {
      enough = subst (λ (n : ℕ). n ≤ length old) long enough;
      bytes = packet-puts c to (length old) s h (put_in cursor (length mid - at) (all_due l)) old mid new at behind head put first rest.0;
      goes_on = rest.2 ∙ more-is c to (length old) s (put_in cursor (length mid - at) (all_due l)) l put supply;
      left = rest.1 ∙ ap (λ (f : Filled). f.cursor) put;
    }

pub put-said : {W : Type 0} (c : Config) (to : ℕ) (s : State W) (old new : List ℕ) (more : Bool) (size : ℕ) (cursor : Cursor) → is_other c to s ≡ true → IsPut c to s old new more size cursor
    → Made more size ≡ said_to_packet c to (length old) s
put-said c to s old new more size cursor other p =
    let place = p.bytes.place in
    said-made c to (length old) s other more size p.enough p.goes_on (place ∙ none-more (length (packet_bytes c to (length old) s)))

pub put-leaves : {W : Type 0} (c : Config) (to : ℕ) (s : State W) (old new : List ℕ) (more : Bool) (size : ℕ) (cursor : Cursor) → is_other c to s ≡ true → IsPut c to s old new more size cursor
    → record s { cursor = put to cursor s.cursor } ≡ after_packet c to (length old) s
put-leaves c to s old new more size cursor other p =
    ap (λ (d : Cursor). record s { cursor = put to d s.cursor }) p.left ∙ after-made c to (length old) s other p.enough
