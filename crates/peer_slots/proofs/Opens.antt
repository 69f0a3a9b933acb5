-- Queues out of a snapshot.
use Rattle.std.proofs.Common.{◌≡◌, ℕ, zero, suc, ◌+◌, ◌≤◌, ◌<◌, Bool, true, false, cond, nat_lt, Result, Ok, Err, List, [], ◌∷◌, ◌++◌, drop, length, get_or, refl, ap, sym, ◌∙◌, subst, arith}
use Rattle.std.specs.Prelude.{IfOk}
use Rattle.std.specs.List.{list_any}
use Rattle.std.proofs.Math.ListN.{drop_of_length-le}
use Rattle.std.proofs.lemmas.Bool.{or_parts, ltb-false, lt-ltb}
use Rattle.std.proofs.lemmas.List.{append_assoc, append-nil, drop_more}
use Rattle.peer_model.specs.Queue.{Queue, new_queue}
use Rattle.peer_packet.proofs.SentLaws.{AreSent-wider}
use Rattle.peer_packet.specs.Snapshot.{AreQueues, IsQueue, issued}
use Rattle.peer_packet.specs.Snapshot as snapshot
use Rattle.peer_calls.specs.Handing.{queue_taken, first_taken, queues_taken, is_crowded}
use Rattle.peer_queue.specs.Room.{QueueInRoom}
use Rattle.peer_slots.specs.Queues.{empty_queue, queues_of, AreQueues as AreKept}
use Rattle.peer_slots.specs.Opened.{IsOfSession, IsNextHanded, AreHanded, next_taken, left_behind, all_taken}

-- ---- the first of them, and the rest

next-some : (room n payload base : ℕ) (ns : List ℕ) (qs : List snapshot.Queue) → payload ≤ 64 → AreQueues payload base (n ∷ ns) qs
    → list_any (λ (q : snapshot.Queue). nat_lt room (length q.commands)) qs ≡ false → IsNextHanded room n qs
next-some room n payload base ns [] short h few = h
next-some room n payload base ns (q ∷ qs) short h few =
    let first = h.0 in
    let parts = or_parts (nat_lt room (length q.commands)) (list_any (λ (x : snapshot.Queue). nat_lt room (length x.commands)) qs) few in (
      (
        base,
        record {
          late = first.late;
          count = first.count;
          before = first.before;
          head = first.head;
          commands = AreSent-wider payload 64 base base q.commands short (omega arith) first.commands;
        },
      ),
      ltb-false room (length q.commands) parts.0,
    )

queues-rest : (payload base n : ℕ) (ns : List ℕ) (qs : List snapshot.Queue) → AreQueues payload base (n ∷ ns) qs → AreQueues payload base ns (drop 1 qs)
queues-rest payload base n ns [] h = absurd h
queues-rest payload base n ns (q ∷ qs) h = h.1

any-rest : (test : snapshot.Queue → Bool) (qs : List snapshot.Queue) → list_any test qs ≡ false → list_any test (drop 1 qs) ≡ false
any-rest test [] none = none
any-rest test (q ∷ qs) none = (or_parts (test q) (list_any test qs) none).1

queues-at : (payload base n : ℕ) (ns : List ℕ) (qs : List snapshot.Queue) (v : Bool) → nat_lt 0 n ≡ v
    → AreQueues payload base (issued (n ∷ ns)) qs → AreQueues payload base (cond v (n ∷ issued ns) (issued ns)) qs
queues-at payload base n ns qs v e h = subst (λ (b : Bool). AreQueues payload base (cond b (n ∷ issued ns) (issued ns)) qs) e h

handed-case : (room n : ℕ) (ns : List ℕ) (qs : List snapshot.Queue) (v : Bool) → nat_lt 0 n ≡ v → AreHanded room (n ∷ ns) qs
    → (0 < n → IsNextHanded room n qs) × AreHanded room ns (cond v (drop 1 qs) qs)
handed-case room n ns qs true e h =
    let here = queues-at h.payload h.base n ns qs true e h.queues in (
      (λ some. next-some room n h.payload h.base (issued ns) qs h.short here h.few),
      record {
        payload = h.payload;
        base = h.base;
        short = h.short;
        queues = queues-rest h.payload h.base n (issued ns) qs here;
        few = any-rest (λ (q : snapshot.Queue). nat_lt room (length q.commands)) qs h.few;
      },
    )
handed-case room n ns qs false e h = (
  (λ some. (let none = ltb-false 0 n e in absurd (omega arith))),
  record { payload = h.payload; base = h.base; short = h.short; queues = queues-at h.payload h.base n ns qs false e h.queues; few = h.few },
)

pub handed-next : (room n : ℕ) (ns : List ℕ) (qs : List snapshot.Queue) → AreHanded room (n ∷ ns) qs → (0 < n → IsNextHanded room n qs) × AreHanded room ns (left_behind n qs)
handed-next room n ns qs h = handed-case room n ns qs (nat_lt 0 n) refl h

pub handed-read : (room : ℕ) (snap : snapshot.Snapshot) → IsOfSession snap → is_crowded room snap ≡ false → AreHanded room snap.have snap.queues
handed-read room snap h few = record {
  payload = h.0.payload;
  base = snap.base;
  short = h.1.payload;
  queues = h.2.queues;
  few = few;
}

-- ---- by slot

pub taken-at : (room : ℕ) (have : List ℕ) (qs : List snapshot.Queue) (o : ℕ)
    → get_or (all_taken room have qs) o (empty_queue room) ≡ record { queue = queues_taken have qs o; room = room }
unfolding all_taken queues_taken
taken-at room [] qs o = refl
taken-at room (n ∷ ns) qs zero = refl
taken-at room (n ∷ ns) qs (suc o) = taken-at room ns (left_behind n qs) o

pub taken-length : (room : ℕ) (have : List ℕ) (qs : List snapshot.Queue) → length (all_taken room have qs) ≡ length have
unfolding all_taken
taken-length room [] qs = refl
taken-length room (n ∷ ns) qs = ap suc (taken-length room ns (left_behind n qs))

pub queues-taken : (room : ℕ) (have : List ℕ) (qs : List snapshot.Queue) (list : List QueueInRoom) → list ≡ all_taken room have qs
    → queues_of (record { list = list; room = room }) ≡ record { slots = length have; room = room; queues = queues_taken have qs }
queues-taken room have qs list is = λ i. record {
  slots = (ap length is ∙ taken-length room have qs) i;
  room = room;
  queues = λ o. (ap (λ (l : List QueueInRoom). (get_or l o (empty_queue room)).queue) is ∙ ap (λ (q : QueueInRoom). q.queue) (taken-at room have qs o)) i;
}

pub are-taken : (room : ℕ) (have : List ℕ) (qs : List snapshot.Queue) (list : List QueueInRoom) → length have ≤ 64 → list ≡ all_taken room have qs
    → AreKept (record { list = list; room = room })
are-taken room have qs list few is = record {
  slots = (let long = ap length is ∙ taken-length room have qs in omega arith);
  rooms = λ o. ap (λ (l : List QueueInRoom). (get_or l o (empty_queue room)).room) is ∙ ap (λ (q : QueueInRoom). q.room) (taken-at room have qs o);
}

pub few-slots : (snap : snapshot.Snapshot) → IsOfSession snap → length snap.have ≤ 64
few-slots snap h = (let same = h.2.slots in let few = h.1.slots in omega arith)

-- what holds of each queue that is handed over and doesn't pass a test, and of a new one, holds of all
first-has :
    (P : Queue → Type 0) (test : snapshot.Queue → Bool) (payload base n : ℕ) (ns : List ℕ) (qs : List snapshot.Queue)
    → ((q : snapshot.Queue) → IsQueue payload base n q → test q ≡ false → P (queue_taken n q))
    → AreQueues payload base (n ∷ ns) qs → list_any test qs ≡ false → P (first_taken n qs)
unfolding first_taken
first-has P test payload base n ns [] has h none = absurd h
first-has P test payload base n ns (q ∷ qs) has h none = has q h.0 (or_parts (test q) (list_any test qs) none).0

each-case :
    (P : Queue → Type 0) (test : snapshot.Queue → Bool) (payload base n : ℕ) (ns : List ℕ) (qs : List snapshot.Queue) (v : Bool) → nat_lt 0 n ≡ v
    → P new_queue → ((q : snapshot.Queue) → IsQueue payload base n q → test q ≡ false → P (queue_taken n q))
    → AreQueues payload base (issued (n ∷ ns)) qs → list_any test qs ≡ false
    → P (cond v (first_taken n qs) new_queue) × AreQueues payload base (issued ns) (cond v (drop 1 qs) qs) × (list_any test (cond v (drop 1 qs) qs) ≡ false)
each-case P test payload base n ns qs true e new has h none =
    let here = queues-at payload base n ns qs true e h in
    (first-has P test payload base n (issued ns) qs has here none, queues-rest payload base n (issued ns) qs here, any-rest test qs none)
each-case P test payload base n ns qs false e new has h none = (new, queues-at payload base n ns qs false e h, none)

pub each-taken :
    (P : Queue → Type 0) (test : snapshot.Queue → Bool) (payload base : ℕ) (have : List ℕ) (qs : List snapshot.Queue)
    → P new_queue → ((n : ℕ) (q : snapshot.Queue) → IsQueue payload base n q → test q ≡ false → P (queue_taken n q))
    → AreQueues payload base (issued have) qs → list_any test qs ≡ false → (o : ℕ) → P (queues_taken have qs o)
unfolding queues_taken
each-taken P test payload base [] qs new has h none o = new
each-taken P test payload base (n ∷ ns) qs new has h none zero = (each-case P test payload base n ns qs (nat_lt 0 n) refl new (has n) h none).0
each-taken P test payload base (n ∷ ns) qs new has h none (suc o) =
    let case = each-case P test payload base n ns qs (nat_lt 0 n) refl new (has n) h none in
    each-taken P test payload base ns (left_behind n qs) new has case.1 case.2 o

-- ---- opening one after another

some-there : (n : ℕ) → (n ≡ 0 → ⊥) → 0 < n
some-there zero some = absurd (some refl)
some-there (suc n) some = omega arith

pub opened-next : {E : Type 0} (result : Result QueueInRoom E) (room have : ℕ) (left new : List snapshot.Queue) (q : snapshot.Queue)
    → (have ≡ 0 → ⊥) → left ≡ q ∷ new → IfOk result (λ r. r ≡ record { queue = queue_taken have q; room = room })
    → IfOk result (λ r. r ≡ record { queue = next_taken have left; room = room })
unfolding first_taken
opened-next (Err e) room have left new q some is opens = tt
opened-next (Ok r) room have left new q some is opens =
    let on : nat_lt 0 have ≡ true = lt-ltb 0 have (some-there have some) in
    opens ∙ rw is (rw on refl)

pub handed-at : (room : ℕ) (have : List ℕ) (left : List snapshot.Queue) (i : ℕ) → i < length have → AreHanded room (drop i have) left
    → (0 < get_or have i 0 → IsNextHanded room (get_or have i 0) left)
handed-at room have left i there h =
    (handed-next room (get_or have i 0) (drop (i + 1) have) left (subst (λ (l : List ℕ). AreHanded room l left) (drop_more have i 0 there) h)).0

-- what holds while they are opened: those that are open, and those that are left
pub record IsOpening (room : ℕ) (all list : List QueueInRoom) (have : List ℕ) (left : List snapshot.Queue) : Type 0 where
  pub handed : AreHanded room have left
  pub parts : list ++ all_taken room have left ≡ all

pub opening-next : (room n : ℕ) (all list : List QueueInRoom) (ns : List ℕ) (left new : List snapshot.Queue) (q : QueueInRoom)
    → q ≡ record { queue = next_taken n left; room = room } → new ≡ left_behind n left
    → IsOpening room all list (n ∷ ns) left → IsOpening room all (list ++ q ∷ []) ns new
unfolding all_taken
opening-next room n all list ns left new q is rest h = record {
  handed = subst (λ (l : List snapshot.Queue). AreHanded room ns l) (sym rest) (handed-next room n ns left h.handed).1;
  parts = append_assoc list (q ∷ []) (all_taken room ns new) ∙ (λ i. list ++ is i ∷ all_taken room ns (rest i)) ∙ h.parts;
}

pub opening-on : (room : ℕ) (all list news : List QueueInRoom) (have : List ℕ) (i : ℕ) (left new : List snapshot.Queue) (q : QueueInRoom)
    → i < length have → news ≡ list ++ q ∷ [] → q ≡ record { queue = next_taken (get_or have i 0) left; room = room } → new ≡ left_behind (get_or have i 0) left
    → IsOpening room all list (drop i have) left → IsOpening room all news (drop (i + 1) have) new
opening-on room all list news have i left new q there more is rest h =
    subst (λ (l : List QueueInRoom). IsOpening room all l (drop (i + 1) have) new) (sym more)
    (opening-next room (get_or have i 0) all list (drop (i + 1) have) left new q is rest
    (subst (λ (l : List ℕ). IsOpening room all list l left) (drop_more have i 0 there) h))

opening-end : (room : ℕ) (all list : List QueueInRoom) (left : List snapshot.Queue) → IsOpening room all list [] left → list ≡ all
unfolding all_taken
opening-end room all list left h = sym (append-nil list) ∙ h.parts

pub opening-done : (room : ℕ) (all list : List QueueInRoom) (have : List ℕ) (i : ℕ) (left : List snapshot.Queue) → length have ≤ i
    → IsOpening room all list (drop i have) left → list ≡ all
opening-done room all list have i left past h =
    opening-end room all list left (subst (λ (l : List ℕ). IsOpening room all list l left) (drop_of_length-le have past) h)
