-- What is put into a packet is spans of what its maker remembers.
use Rattle.std.proofs.Common.{◌≡◌, ℕ, zero, suc, ◌+◌, ◌-◌, ◌≤◌, ◌<◌, max, Bool, true, false, cond, ◌==◌, ◌&&◌, ◌||◌, nat_lt, nat_le, Option, Some, None, List, [], ◌∷◌, map, filter, length, take, drop, get_or, refl, ap, sym, ◌∙◌, arith}
use Rattle.std.specs.List.{AllByRecursion}
use Rattle.std.proofs.Math.Seq.{take-take, drop-drop, take-add}
use Rattle.std.proofs.Math.ListN.{length-take, length-drop, length-map}
use Rattle.std.proofs.lemmas.List.{take-map, drop-map, drop-take, get_or_past}
use Rattle.std.proofs.lemmas.List.FromFn.{length-map-range_with_len, get_or-map-range_with_len}
use Rattle.std.proofs.lemmas.Bool.{and_parts, and_from, leb-true, leb-false, le-leb, ltb-true, ltb-false, lt-ltb}
use Rattle.std.proofs.lemmas.Bool.Decides.{nat_tests}
use Rattle.game_trait.proofs.Lists.{all-append}
use Rattle.peer_model.specs.Queue.{Sent, Queue, Part, have_of, last_time, part_of}
use Rattle.peer_model.specs.Peer.{Span, may_span, not_same, packet_from}
use Rattle.peer_model.specs.Due.{end_from, due_from, listed, due_spans}
use Rattle.peer_model.proofs.Pieces.{last-append}
use Rattle.peer_model.proofs.Progress.{end-within}
use Rattle.peer_packet.specs.Packet as wire
use Rattle.peer_packet.specs.declared.cursor.Cursor.{Cursor}
use Rattle.peer_packet.specs.Filling.{Filled, later_part, first_part, behind_cursor, or_all, from_cursor, fitting, ends_before, filled, put_in}
use Rattle.peer_packet.specs.Filling as fill
use Rattle.peer_calls.specs.declared.config.Config.{Config}
use Rattle.peer_calls.specs.State.{State, clock_now, window_of}
use Rattle.peer_calls.specs.Wire.{as_sent, as_part, sent_from, part_from, packet_from_wire}
use Rattle.peer_calls.specs.Sending.{counts_of, span_part, due_parts, head_length, filled_for, packet_for}

-- a part that is a span of queues
record IsSpan (slots to : ℕ) (queues : ℕ → Queue) (p : wire.Part) : Type 0 where
  pub span : Span
  pub may : may_span slots to queues span ≡ true
  pub is : p ≡ span_part queues span

-- ---- commands as packets carry them

last-as : (t : ℕ) (xs : List Sent) → fill.last_time t (map as_sent xs) ≡ last_time t xs
unfolding last_time fill.last_time
last-as t [] = refl
last-as t (x ∷ xs) = last-as x.time xs

sents-back : (xs : List Sent) → map sent_from (map as_sent xs) ≡ xs
sents-back [] = refl
sents-back (x ∷ xs) = ap (λ (l : List Sent). x ∷ l) (sents-back xs)

part-back : (p : Part) → part_from (as_part p) ≡ p
part-back p = ap (λ (l : List Sent). record p { commands = l }) (sents-back p.commands)

-- ---- a span without its first commands, or with no others

record Within (queues : ℕ → Queue) (s : Span) : Type 0 where
  pub low : (queues s.origin).kept ≤ s.first
  pub high : s.first ≤ have_of (queues s.origin)

may-parts : (slots to : ℕ) (queues : ℕ → Queue) (s : Span) → may_span slots to queues s ≡ true → Within queues s
may-parts slots to queues s may =
    let ends = and_parts _ _ (and_parts _ _ (and_parts _ _ may).1).1 in
    record { low = leb-true (queues s.origin).kept s.first ends.0; high = leb-true s.first (have_of (queues s.origin)) ends.1 }

may-as : (slots to : ℕ) (queues : ℕ → Queue) (s : Span) (first count : ℕ) → may_span slots to queues s ≡ true
    → s.first ≤ first → first ≤ have_of (queues s.origin) → may_span slots to queues (record { origin = s.origin; first = first; count = count }) ≡ true
may-as slots to queues s first count may up within =
    let one = and_parts _ _ may in
    let two = and_parts _ _ one.1 in
    let was = may-parts slots to queues s may in
    let low = was.low in
    let q = queues s.origin in
    and_from (nat_lt s.origin slots) (not_same s.origin to && (nat_le q.kept first && nat_le first (have_of q))) one.0
    (and_from (not_same s.origin to) (nat_le q.kept first && nat_le first (have_of q)) two.0
    (and_from (nat_le q.kept first) (nat_le first (have_of q)) (le-leb q.kept first (omega arith)) (le-leb first (have_of q) within)))

later-is : (queues : ℕ → Queue) (s : Span) (k : ℕ) → Within queues s → k ≤ s.count
    → later_part k (span_part queues s) ≡ span_part queues (record { origin = s.origin; first = s.first + k; count = s.count - k })
later-is queues s k within few =
    let q = queues s.origin in
    let cs = q.commands in
    let a = s.first - q.kept in
    let low = within.low in
    let b : a + k ≡ (s.first + k) - q.kept = omega arith in
    let more : k + (s.count - k) ≡ s.count = omega arith in
    let before : fill.last_time (last_time q.gone (take a cs)) (take k (map as_sent (take s.count (drop a cs)))) ≡ last_time q.gone (take ((s.first + k) - q.kept) cs) =
    ap (fill.last_time (last_time q.gone (take a cs))) (take-map as_sent k (take s.count (drop a cs)))
    ∙ last-as (last_time q.gone (take a cs)) (take k (take s.count (drop a cs)))
    ∙ ap (last_time (last_time q.gone (take a cs))) (take-take k s.count (drop a cs) few)
    ∙ sym (last-append q.gone (take a cs) (take k (drop a cs)))
    ∙ ap (last_time q.gone) (sym (take-add a k cs))
    ∙ ap (λ (n : ℕ). last_time q.gone (take n cs)) b in
    let commands : drop k (map as_sent (take s.count (drop a cs))) ≡ map as_sent (take (s.count - k) (drop ((s.first + k) - q.kept) cs)) =
    drop-map as_sent k (take s.count (drop a cs))
    ∙ ap (λ (n : ℕ). map as_sent (drop k (take n (drop a cs)))) (sym more)
    ∙ ap (map as_sent) (drop-take k (s.count - k) (drop a cs))
    ∙ ap (λ (l : List Sent). map as_sent (take (s.count - k) l)) (drop-drop k a cs)
    ∙ ap (λ (n : ℕ). map as_sent (take (s.count - k) (drop n cs))) b in
    λ i. record { origin = s.origin; first = s.first + k; before = before i; commands = commands i }

-- the commands of a span
many : (queues : ℕ → Queue) (s : Span) → (length (span_part queues s).commands ≤ s.count) × (length (span_part queues s).commands ≤ length (queues s.origin).commands - (s.first - (queues s.origin).kept))
many queues s =
    let q = queues s.origin in
    let a = s.first - q.kept in
    let mapped = length-map (take s.count (drop a q.commands)) as_sent in
    let took = length-take s.count (drop a q.commands) in
    let left = length-drop a q.commands in
    (omega arith, omega arith)

span-later : (slots to : ℕ) (queues : ℕ → Queue) (p : wire.Part) (k : ℕ) → IsSpan slots to queues p → k < length p.commands → IsSpan slots to queues (later_part k p)
span-later slots to queues p k h less =
    let s = h.span in
    let within = may-parts slots to queues s h.may in
    let low = within.low in
    let high = within.high in
    let same : length p.commands ≡ length (span_part queues s).commands = ap (λ (x : wire.Part). length x.commands) h.is in
    let few = many queues s in
    let a = few.0 in
    let b = few.1 in
    record {
      span = record { origin = s.origin; first = s.first + k; count = s.count - k };
      may = may-as slots to queues s (s.first + k) (s.count - k) h.may (omega arith) (omega arith);
      is = ap (later_part k) h.is ∙ later-is queues s k within (omega arith);
    }

first-is : (queues : ℕ → Queue) (s : Span) (n : ℕ) → n ≤ s.count → first_part n (span_part queues s) ≡ span_part queues (record { origin = s.origin; first = s.first; count = n })
first-is queues s n few =
    let q = queues s.origin in
    let cs = drop (s.first - q.kept) q.commands in
    let same : take n (map as_sent (take s.count cs)) ≡ map as_sent (take n cs) = take-map as_sent n (take s.count cs) ∙ ap (map as_sent) (take-take n s.count cs few) in
    λ i. record { origin = s.origin; first = s.first; before = last_time q.gone (take (s.first - q.kept) q.commands); commands = same i }

span-first : (slots to : ℕ) (queues : ℕ → Queue) (p : wire.Part) (n : ℕ) → IsSpan slots to queues p → n < length p.commands → IsSpan slots to queues (first_part n p)
span-first slots to queues p n h less =
    let s = h.span in
    let within = may-parts slots to queues s h.may in
    let same : length p.commands ≡ length (span_part queues s).commands = ap (λ (x : wire.Part). length x.commands) h.is in
    let few = (many queues s).0 in
    record {
      span = record { origin = s.origin; first = s.first; count = n };
      may = may-as slots to queues s s.first n h.may (omega arith) within.high;
      is = ap (first_part n) h.is ∙ first-is queues s n (omega arith);
    }

-- ---- what is put of them

behind-spans : (slots to : ℕ) (queues : ℕ → Queue) (c : Cursor) (ps : List wire.Part) → AllByRecursion (IsSpan slots to queues) ps → AllByRecursion (IsSpan slots to queues) (behind_cursor c ps)
unfolding behind_cursor
behind-spans slots to queues c [] h = tt
behind-spans slots to queues c (p ∷ ps) h =
    let All = AllByRecursion (IsSpan slots to queues) in
    let cut = later_part (c.number - p.first) p ∷ ps in
    let past = nat_le (p.first + length p.commands) c.number in
    let from = nat_lt c.slot p.origin || nat_le c.number p.first in
    elim (nat_lt p.origin c.slot) as (λ v. All (cond v (behind_cursor c ps) (cond from (p ∷ ps) (cond past ps cut)))) [
      | true ↦ behind-spans slots to queues c ps h.1
      | false ↦ elim from as (λ v. from ≡ v → All (cond v (p ∷ ps) (cond past ps cut))) [
        | true ↦ λ e. h
        | false ↦ λ e. elim past as (λ v. past ≡ v → All (cond v ps cut)) [
          | true ↦ λ l. h.1
          | false ↦ λ l.
              let less : c.number - p.first < length p.commands = (let below = leb-false (p.first + length p.commands) c.number l in let above : p.first < c.number = grind (arith, nat_tests) in omega arith) in
              (span-later slots to queues p (c.number - p.first) h.0 less, h.1)
        ] refl
      ] refl
    ]

or-spans : (P : wire.Part → Type 0) (due ps : List wire.Part) → AllByRecursion P due → AllByRecursion P ps → AllByRecursion P (or_all due ps)
or-spans P due [] all some = all
or-spans P due (p ∷ ps) all some = some

filled-spans : (slots to : ℕ) (queues : ℕ → Queue) (room : ℕ) (ps : List wire.Part) → AllByRecursion (IsSpan slots to queues) ps → AllByRecursion (IsSpan slots to queues) (filled room ps).parts
unfolding filled
filled-spans slots to queues room [] h = tt
filled-spans slots to queues room (p ∷ ps) h =
    let fit = fitting (room - 11) p.commands in
    let stop : Filled = record { parts = []; cursor = record { slot = p.origin; number = p.first } } in
    let short : Filled = record { parts = first_part fit p ∷ []; cursor = record { slot = p.origin; number = p.first + fit } } in
    let more = filled (room - length (wire.part_bytes p)) ps in
    let whole : Filled = record { parts = p ∷ more.parts; cursor = more.cursor } in
    let All : Filled → Type 0 = λ f. AllByRecursion (IsSpan slots to queues) f.parts in
    elim (ends_before room p) as (λ v. All (cond v stop (cond (nat_lt fit (length p.commands)) short whole))) [
      | true ↦ tt
      | false ↦ elim (nat_lt fit (length p.commands)) as (λ v. nat_lt fit (length p.commands) ≡ v → All (cond v short whole)) [
        | true ↦ λ e. (span-first slots to queues p fit h.0 (ltb-true fit (length p.commands) e), tt)
        | false ↦ λ e. (h.0, filled-spans slots to queues (room - length (wire.part_bytes p)) ps h.1)
      ] refl
    ]

-- ---- what is due

due-one : (slots me relay to o : ℕ) (queues : ℕ → Queue) (known : ℕ → ℕ) (clock : ℕ) → o < slots → (o == to) ≡ false
    → AllByRecursion (λ s. may_span slots to queues s ≡ true) (listed (due_from me relay o queues known clock))
due-one slots me relay to o queues known clock there other =
    let q = queues o in
    let e = end_from me relay o queues clock in
    let within = end-within me relay o queues clock in
    let low = within.0 in
    let high = within.1 in
    let first = max (known o) q.kept in
    let Good : Option Span → Type 0 = λ x. AllByRecursion (λ s. may_span slots to queues s ≡ true) (listed x) in
    let one : Span = record { origin = o; first = first; count = e - first } in
    let none : Span = record { origin = o; first = q.kept; count = 0 } in
    let apart : not_same o to ≡ true = grind (arith, nat_tests) in
    let slot = lt-ltb o slots there in
    let may : (s : Span) → s.origin ≡ o → q.kept ≤ s.first → s.first ≤ have_of q → may_span slots to queues (record { origin = o; first = s.first; count = s.count }) ≡ true =
    λ s is a b. and_from (nat_lt o slots) (not_same o to && (nat_le q.kept s.first && nat_le s.first (have_of q))) slot
    (and_from (not_same o to) (nat_le q.kept s.first && nat_le s.first (have_of q)) apart
    (and_from (nat_le q.kept s.first) (nat_le s.first (have_of q)) (le-leb q.kept s.first a) (le-leb s.first (have_of q) b))) in
    elim (nat_lt first e) as (λ v. nat_lt first e ≡ v → Good (cond v (Some one) (cond (nat_lt (known o) q.kept && (q.kept == e)) (Some none) None))) [
      | true ↦ λ l. (let below = ltb-true first e l in (may one refl (omega arith) (omega arith), tt))
      | false ↦ λ l. elim (nat_lt (known o) q.kept && (q.kept == e)) as (λ v. Good (cond v (Some none) None))
          [ true ↦ (may none refl (omega arith) (omega arith), tt) | false ↦ tt ]
    ]
    refl

due-all : (slots me relay to : ℕ) (queues : ℕ → Queue) (known : ℕ → ℕ) (clock k : ℕ) → k ≤ slots
    → AllByRecursion (λ s. may_span slots to queues s ≡ true) (due_spans me relay to queues known clock k)
unfolding due_spans
due-all slots me relay to queues known clock zero within = tt
due-all slots me relay to queues known clock (suc o) within =
    let All = AllByRecursion (λ (s : Span). may_span slots to queues s ≡ true) in
    let here = listed (due_from me relay o queues known clock) in
    all-append (λ (s : Span). may_span slots to queues s ≡ true) (due_spans me relay to queues known clock o) (cond (o == to) [] here)
    (due-all slots me relay to queues known clock o (omega arith))
    (elim (o == to) as (λ v. (o == to) ≡ v → All (cond v [] here)) [
      | true ↦ λ e. tt
      | false ↦ λ e. due-one slots me relay to o queues known clock (omega arith) e
    ] refl)

as-spans : (slots to : ℕ) (queues : ℕ → Queue) (ss : List Span) → AllByRecursion (λ s. may_span slots to queues s ≡ true) ss
    → AllByRecursion (IsSpan slots to queues) (map (span_part queues) ss)
as-spans slots to queues [] h = tt
as-spans slots to queues (s ∷ ss) h = (record { span = s; may = h.0; is = refl }, as-spans slots to queues ss h.1)

-- ---- a packet

parts-from : (slots to : ℕ) (queues : ℕ → Queue) (ps : List wire.Part) → AllByRecursion (IsSpan slots to queues) ps
    → (spans : List Span) × (map part_from ps ≡ map (λ (s : Span). part_of s.origin s.first s.count (queues s.origin)) (filter (may_span slots to queues) spans))
parts-from slots to queues [] h = ([], refl)
parts-from slots to queues (p ∷ ps) h =
    let s = h.0.span in
    let part = λ (x : Span). part_of x.origin x.first x.count (queues x.origin) in
    let more = parts-from slots to queues ps h.1 in
    let rest = filter (may_span slots to queues) more.0 in
    let here : part_from p ≡ part s = ap part_from h.0.is ∙ part-back (part s) in
    let kept : filter (may_span slots to queues) (s ∷ more.0) ≡ s ∷ rest = ap (λ (b : Bool). cond b (s ∷ rest) rest) h.0.may in
    (s ∷ more.0, (λ i. here i ∷ more.1 i) ∙ ap (map part) (sym kept))

-- what is had of a slot of the session stands in the packet, and of others there is nothing
counts-are : (slots : ℕ) (queues : ℕ → Queue) → ((o : ℕ) → slots ≤ o → have_of (queues o) ≡ 0) → (o : ℕ) → get_or (counts_of slots queues) o 0 ≡ have_of (queues o)
counts-are slots queues none o =
    elim (nat_lt o slots) as (λ v. nat_lt o slots ≡ v → get_or (counts_of slots queues) o 0 ≡ have_of (queues o)) [
      | true ↦ λ e. get_or-map-range_with_len (λ (p : ℕ). have_of (queues p)) 0 slots o o 0 (ltb-true o slots e) (omega arith)
      | false ↦ λ e.
          let past = ltb-false o slots e in
          let long = length-map-range_with_len (λ (p : ℕ). have_of (queues p)) 0 slots in
          get_or_past (counts_of slots queues) o 0 (omega arith) ∙ sym (none o past)
    ]
    refl

pub packet-spans :
    {W : Type 0} (c : Config) (to room : ℕ) (s : State W) → ((o : ℕ) → c.terms.slots ≤ o → have_of (s.queues o) ≡ 0)
    → (spans : List Span) × (packet_from_wire (packet_for c to room s) ≡ packet_from c.terms.slots s.me to spans s.queues (window_of s).heard (clock_now s))
packet-spans c to room s none =
    let slots = c.terms.slots in
    let due = due_parts c to s in
    let all = as-spans slots to s.queues (due_spans s.me c.relay to s.queues (s.known to) (clock_now s) slots) (due-all slots s.me c.relay to s.queues (s.known to) (clock_now s) slots (omega arith)) in
    let behind = or-spans (IsSpan slots to s.queues) due (behind_cursor (s.cursor to) due) all (behind-spans slots to s.queues (s.cursor to) due all) in
    let put = filled-spans slots to s.queues (room - head_length c to s) (from_cursor (s.cursor to) due) behind in
    let parts = parts-from slots to s.queues (filled_for c to room s).parts put in
    let counts = counts-are slots s.queues none in (
      parts.0,
      λ i. record {
        sender = s.me;
        to = to;
        clock = clock_now s;
        echo = (window_of s).heard to;
        have = λ o. counts o i;
        parts = parts.1 i;
      },
    )
