-- What a peer hands over is a snapshot of its session.
use Rattle.std.proofs.Common.{◌≡◌, ℕ, zero, suc, ◌+◌, ◌≤◌, ◌<◌, ◌^◌, Bool, true, false, cond, nat_le, nat_lt, ◌==◌, ◌&&◌, List, [], ◌∷◌, ◌++◌, map, filter, length, take, refl, ap, sym, ◌∙◌, subst, arith}
use Rattle.std.proofs.lemmas.Bool.{and_from, le-leb, lt-ltb}
use Rattle.std.proofs.lemmas.Bool.Decides.{nat_tests}
use Rattle.std.proofs.lemmas.List.{length-map, length-drop, length-take-le}
use Rattle.std.proofs.lemmas.List.FromFn.{length-map-range_with_len}
use Rattle.std.specs.List.{AllByRecursion, range_with_len}
use Rattle.game_trait.specs.declared.command.Command.{Command}
use Rattle.game_trait.specs.Count.{times}
use Rattle.game_trait.specs.Game.{Rules}
use Rattle.game_trait.proofs.Counts.{times-append, times-most}
use Rattle.rolling_mirror.specs.Rolling.{last_tick}
use Rattle.peer_model.specs.Queue.{Sent, Queue, have_of, last_time, piece, time_before, due_before, front_before, trimmed, TimesRise}
use Rattle.peer_model.specs.Peer.{Peer, numbered, of_slots, bound_of, counted_of, IsPeer}
use Rattle.peer_model.proofs.Pieces.{piece-join, piece-rises, trimmed-front, trimmed-have, trimmed-passed}
use Rattle.peer_model.proofs.Peers.{last-behind}
use Rattle.peer_window.specs.Window.{IsWindow}
use Rattle.peer_packet.specs.Packet as wire
use Rattle.peer_packet.specs.Snapshot as snapshot
use Rattle.peer_calls.specs.declared.config.Config.{Config}
use Rattle.peer_calls.specs.State.{State, clock_now, window_of}
use Rattle.peer_calls.specs.Wire.{as_sent}
use Rattle.peer_calls.specs.Handing.{queue_handed, handed_by}
use Rattle.peer_join.specs.Join.{AreOfSession}
use Rattle.peer_join.proofs.Same.{and-true, trimmed-due}
use Rattle.peer_join.proofs.Handed.{base-same}
use Rattle.peer_join.proofs.Fits.{all-behind}

-- ---- what was turned away is forgotten

-- a command of a slot that is due before a tick
abbrev is_passed : ℕ → ℕ → Command → Bool
is_passed o b x = (x.from == o) && nat_lt x.time b

numbered-mine : (o b k n : ℕ) (xs : List Sent) → (k == o) ≡ true → times (is_passed o b) (numbered k n xs) ≡ due_before b xs
unfolding numbered times
numbered-mine o b k n [] mine = refl
numbered-mine o b k n (x ∷ xs) mine =
    let more = numbered-mine o b k (n + 1) xs mine in
    let here : ((k == o) && nat_lt x.time b) ≡ nat_lt x.time b = ap (λ (v : Bool). v && nat_lt x.time b) mine in
    rw here (omega arith)

numbered-others : (o b k n : ℕ) (xs : List Sent) → (k == o) ≡ false → times (is_passed o b) (numbered k n xs) ≡ 0
unfolding numbered times
numbered-others o b k n [] apart = refl
numbered-others o b k n (x ∷ xs) apart =
    let more = numbered-others o b k (n + 1) xs apart in
    let here : ((k == o) && nat_lt x.time b) ≡ false = ap (λ (v : Bool). v && nat_lt x.time b) apart in
    rw here (omega arith)

-- of all slots' commands so many are this slot's
passed-few : (o b k : ℕ) (lists : ℕ → List Sent) → (k ≤ o → times (is_passed o b) (of_slots k lists) ≡ 0) × (times (is_passed o b) (of_slots k lists) ≤ due_before b (lists o))
unfolding of_slots times
passed-few o b zero lists = (λ before. refl, omega arith)
passed-few o b (suc k) lists =
    let rest = passed-few o b k lists in
    let both = times-append (is_passed o b) (of_slots k lists) (numbered k 0 (lists k)) in
    elim (k == o) as (λ v. (k == o) ≡ v → (suc k ≤ o → times (is_passed o b) (of_slots k lists ++ numbered k 0 (lists k)) ≡ 0) × (times (is_passed o b) (of_slots k lists ++ numbered k 0 (lists k)) ≤ due_before b (lists o))) [
      | true ↦ λ e. (
          let same : k ≡ o = grind (arith, nat_tests) in
          let none = rest.0 (omega arith) in
          let mine = numbered-mine o b k 0 (lists k) e in
          let here = ap (λ (j : ℕ). due_before b (lists j)) same in
          (λ before. absurd (omega arith), omega arith)
          )
      | false ↦ λ e. (
          let others = numbered-others o b k 0 (lists k) e in
          let up = rest.1 in
          (λ before. (let none = rest.0 (omega arith) in omega arith), omega arith)
          )
    ]
    refl

-- all that is due before a tick
away-passed : (o b : ℕ) (xs : List Command) → AllByRecursion (λ x. x.time < b) xs → times (λ x. x.from == o) xs ≡ times (is_passed o b) xs
unfolding times
away-passed o b [] below = refl
away-passed o b (x ∷ xs) below =
    let more = away-passed o b xs below.1 in
    let here : is_passed o b x ≡ (x.from == o) = ap (λ (v : Bool). (x.from == o) && v) (lt-ltb x.time b below.0) ∙ and-true (x.from == o) in
    rw here (omega arith)

none-due : (b : ℕ) (xs : List Sent) → AllByRecursion (λ x. b ≤ x.time) xs → due_before b xs ≡ 0
unfolding times
none-due b [] due = refl
none-due b (x ∷ xs) due =
    let on = due.0 in
    let here : nat_lt x.time b ≡ false = grind (arith, nat_tests) in
    let more = none-due b xs due.1 in
    rw here (omega arith)

late-within :
    {W : Type 0} (slots : ℕ) (log : ℕ → List Sent) (m : Peer W) (o : ℕ) → o < slots → ((p : ℕ) → TimesRise 0 (log p)) → IsPeer slots log m
    → (m.queues o).late ≤ (trimmed (bound_of m) (m.queues o)).kept
late-within slots log m o there rise peer =
    let b = bound_of m in
    let q = trimmed b (m.queues o) in
    let front = trimmed-front b (log o) (m.queues o) (peer.fronts o) in
    let within = front.within in
    let before = take q.kept (log o) in
    let long : length before ≡ q.kept = length-take-le q.kept (log o) (omega arith) in
    let at : 0 + q.kept ≡ q.kept = omega arith in
    let parts : take (have_of q) (log o) ≡ before ++ q.commands =
    sym (piece-join 0 q.kept (length q.commands) (log o)) ∙ ap (λ (l : List Sent). before ++ l) (ap (λ (k : ℕ). piece k (length q.commands) (log o)) at ∙ sym front.commands) in
    let same : take (have_of (m.queues o)) (log o) ≡ before ++ q.commands = ap (λ (k : ℕ). take k (log o)) (sym (trimmed-have b (m.queues o))) ∙ parts in
    let due = ap (due_before b) same ∙ times-append (λ (x : Sent). nat_lt x.time b) before q.commands in
    let most = times-most (λ (x : Sent). nat_lt x.time b) before in
    let none = none-due b q.commands (trimmed-due b (log o) (m.queues o) (rise o) (peer.fronts o)) in
    let late = peer.counted.late o in
    let away = away-passed o b peer.counted.away peer.counted.passed in
    let once = peer.counted.once (is_passed o b) in
    let few = (passed-few o b slots (counted_of log m)).1 in
    omega arith

-- ---- a queue

-- what holds of a queue of which what is due before a tick is forgotten
record IsTrimmed (b : ℕ) (q : Queue) : Type 0 where
  late : q.late ≤ q.kept
  passed : 0 < q.kept → q.gone < b
  nothing_gone : q.kept ≡ 0 → q.gone ≡ 0
  rising : TimesRise b q.commands

rise-from : (b t : ℕ) (xs : List Sent) → TimesRise t xs → AllByRecursion (λ x. b ≤ x.time) xs → TimesRise b xs
unfolding TimesRise
rise-from b t [] rise due = tt
rise-from b t (x ∷ xs) rise due = (due.0, rise.1)

none-before : (k g : ℕ) (log : List Sent) → g ≡ time_before k log → k ≡ 0 → g ≡ 0
unfolding last_time
none-before k g log gone none = gone ∙ ap (λ (n : ℕ). time_before n log) none

trimmed-is :
    {W : Type 0} (slots : ℕ) (log : ℕ → List Sent) (m : Peer W) (o : ℕ) → o < slots → ((p : ℕ) → TimesRise 0 (log p)) → IsPeer slots log m
    → IsTrimmed (bound_of m) (trimmed (bound_of m) (m.queues o))
trimmed-is slots log m o there rise peer =
    let b = bound_of m in
    let q = trimmed b (m.queues o) in
    let front = trimmed-front b (log o) (m.queues o) (peer.fronts o) in
    let up = subst (TimesRise (time_before q.kept (log o))) (sym front.commands) (piece-rises q.kept (length q.commands) (log o) (rise o)) in
    record {
      late = late-within slots log m o there rise peer;
      passed = trimmed-passed b b (m.queues o) (omega arith) (peer.passed o);
      nothing_gone = none-before q.kept q.gone (log o) front.gone;
      rising = rise-from b (time_before q.kept (log o)) q.commands up (trimmed-due b (log o) (m.queues o) (rise o) (peer.fronts o));
    }

before-small : (b kept gone : ℕ) → (0 < kept → gone < b) → (kept ≡ 0 → gone ≡ 0) → b < 2 ^ 32 → gone < 2 ^ 32
before-small b zero gone passed none small = (let here = none refl in omega arith)
before-small b (suc kept) gone passed none small = (let here = passed (omega arith) in omega arith)

and-both : (a all x y : Bool) → a ≡ true → all ≡ true → x ≡ true → (a && cond all x y) ≡ true
and-both a all x y first is here = and_from a (cond all x y) first (ap (λ (v : Bool). cond v x y) is ∙ here)

and-either : (a all x y : Bool) → a ≡ true → all ≡ false → y ≡ true → (a && cond all x y) ≡ true
and-either a all x y first is here = and_from a (cond all x y) first (ap (λ (v : Bool). cond v x y) is ∙ here)

head-is : (b late kept count gone n : ℕ) → late ≤ kept → (0 < kept → gone < b) → (kept ≡ 0 → gone ≡ 0) → n ≡ kept + count
    → snapshot.is_queue b n (record { late = late; count = count; before = gone }) ≡ true
unfolding snapshot.is_queue
head-is b late zero count gone n within passed none is =
    let all : (count == n) ≡ true = grind (arith, nat_tests) in
    let here = none refl in
    let at : (gone == 0) ≡ true = grind (arith, nat_tests) in
    and-both (nat_le (late + count) n) (count == n) (gone == 0) (nat_lt gone b) (le-leb (late + count) n (omega arith)) all at
head-is b late (suc kept) count gone n within passed none is =
    let some : (count == n) ≡ false = grind (arith, nat_tests) in
    let here = passed (omega arith) in
    and-either (nat_le (late + count) n) (count == n) (gone == 0) (nat_lt gone b) (le-leb (late + count) n (omega arith)) some (lt-ltb gone b here)

sents-are : (payload t : ℕ) (xs : List Sent) → TimesRise t xs → AllByRecursion (λ x. x.time < 2 ^ 32) xs → AllByRecursion (λ x. length x.bytes ≤ payload) xs
    → wire.AreSent payload t (map as_sent xs)
unfolding TimesRise
sents-are payload t [] rise times short = tt
sents-are payload t (x ∷ xs) rise times short =
    let follows = and_from (nat_le t x.time) (nat_le (length x.bytes) payload) (le-leb t x.time rise.0) (le-leb (length x.bytes) payload short.0) in
    (record { time = times.0; follows = follows }, sents-are payload x.time xs rise.1 times.1 short.1)

queue-is :
    (payload b : ℕ) (q : Queue) → b < 2 ^ 32 → have_of q < 2 ^ 32 → length q.commands < 2 ^ 16
    → AllByRecursion (λ x. x.time < 2 ^ 32) q.commands → AllByRecursion (λ x. length x.bytes ≤ payload) q.commands → IsTrimmed b (trimmed b q)
    → snapshot.IsQueue payload b (have_of q) (queue_handed (trimmed b q))
queue-is payload b q small numbers few times short h =
    let r = trimmed b q in
    let n = front_before b q.commands in
    let have = trimmed-have b q in
    let count = length-map r.commands as_sent in
    let fewer = length-drop n q.commands in
    let late = h.late in
    record {
      late = omega arith;
      count = omega arith;
      before = before-small b r.kept r.gone h.passed h.nothing_gone small;
      head = head-is b r.late r.kept (length (map as_sent r.commands)) r.gone (have_of q) h.late h.passed h.nothing_gone (omega arith);
      commands = sents-are payload b r.commands h.rising (all-behind (λ x. x.time < 2 ^ 32) n q.commands times) (all-behind (λ x. length x.bytes ≤ payload) n q.commands short);
    }

-- ---- all of them

queues-are :
    (payload b slots a n : ℕ) (queues : ℕ → Queue) → a + n ≤ slots
    → ((o : ℕ) → o < slots → snapshot.IsQueue payload b (have_of (queues o)) (queue_handed (trimmed b (queues o))))
    → snapshot.AreQueues payload b (snapshot.issued (map (λ o. have_of (queues o)) (range_with_len a n)))
    (map (λ o. queue_handed (trimmed b (queues o))) (filter (λ o. nat_lt 0 (have_of (queues o))) (range_with_len a n)))
queues-are payload b slots a zero queues within each = tt
queues-are payload b slots a (suc n) queues within each =
    let rest = queues-are payload b slots (a + 1) n queues (omega arith) each in
    let counts = snapshot.issued (map (λ o. have_of (queues o)) (range_with_len (a + 1) n)) in
    let others = filter (λ o. nat_lt 0 (have_of (queues o))) (range_with_len (a + 1) n) in
    elim (nat_lt 0 (have_of (queues a))) as (λ v. snapshot.AreQueues payload b (cond v (have_of (queues a) ∷ counts) counts) (map (λ o. queue_handed (trimmed b (queues o))) (cond v (a ∷ others) others))) [
      | true ↦ (each a (omega arith), rest)
      | false ↦ rest
    ]

counts-small : (a n : ℕ) (queues : ℕ → Queue) → ((o : ℕ) → have_of (queues o) < 2 ^ 32) → AllByRecursion (λ k. k < 2 ^ 32) (map (λ o. have_of (queues o)) (range_with_len a n))
counts-small a zero queues few = tt
counts-small a (suc n) queues few = (few a, counts-small (a + 1) n queues few)

pub handed-snapshot :
    {W : Type 0} (rules : Rules W) (c : Config) (log : ℕ → List Sent) (m : Peer W) (s : State W)
    → ((o : ℕ) → TimesRise 0 (log o)) → IsPeer c.terms.slots log m → IsWindow rules m (window_of s)
    → s.me < c.terms.slots → AreOfSession c.terms.payload s.queues → snapshot.IsSnapshot c.terms (handed_by c s)
handed-snapshot rules c log m s rise peer window there kept =
    let slots = c.terms.slots in
    let base = last_tick s.roll in
    let same = base-same rules m s window in
    let behind = last-behind m.whole.clock m.whole.runs peer.sound.behind in
    let clock = window.rolled.window.clock in
    let session = window.rolled.in_session in
    let ahead : base ≤ clock_now s = omega arith in
    let small : base < 2 ^ 32 = omega arith in
    let each = λ (o : ℕ) (below : o < slots).
    (let trimmed_is : IsTrimmed base (trimmed base (s.queues o)) = subst (λ (x : ℕ × Queue). IsTrimmed x.0 (trimmed x.0 x.1)) (sym (λ i. (same i, window.queues o i))) (trimmed-is slots log m o below rise peer) in
    queue-is c.terms.payload base (s.queues o) small (kept.numbers o) (kept.few o) (kept.times o) (kept.short o) trimmed_is) in
    record {
      maker = lt-ltb s.me slots there;
      base = small;
      clock = omega arith;
      ahead = le-leb base (clock_now s) ahead;
      slots = length-map-range_with_len (λ (o : ℕ). have_of (s.queues o)) 0 slots;
      counts = counts-small 0 slots s.queues kept.numbers;
      queues = queues-are c.terms.payload base slots 0 slots s.queues (omega arith) each;
    }
