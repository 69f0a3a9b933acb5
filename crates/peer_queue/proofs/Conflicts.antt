-- A part that follows what was counted.
use Rattle.std.proofs.Common.{◌≡◌, ℕ, zero, suc, ◌+◌, ◌-◌, ◌≤◌, ◌<◌, Bool, true, false, cond, not, ◌==◌, ◌&&◌, nat_lt, List, [], ◌∷◌, map, length, take, drop, refl, sym, subst, ◌∙◌, arith}
use Rattle.std.specs.Prelude.{nat_le}
use Rattle.std.proofs.lemmas.List.{length-map}
use Rattle.std.proofs.lemmas.Bool.{lt-ltb, le-ltb, ltb-true, ltb-false, leb-true, eq-eqb, eqb-true}
use Rattle.std.proofs.lemmas.Bool.Decides.{nat_tests}
use Rattle.std.proofs.Math.ListN.{drop_of_length-le}
use Rattle.peer_model.specs.Queue.{Queue, have_of, last_time, conflicts}
use Rattle.peer_packet.specs.Packet.{IsSent, AreSent}
use Rattle.peer_packet.specs.Packet as wire
use Rattle.peer_packet.specs.Snapshot.{is_queue}
use Rattle.peer_packet.specs.Snapshot as snapshot
use Rattle.peer_packet.proofs.SentLaws.{AreSent-wider}
use Rattle.peer_calls.specs.Wire.{sent_from, part_from}
use Rattle.peer_queue.specs.Room.{IsHandedOver}

-- nothing new
pub agrees-old : (p : wire.Part) (q : Queue) → p.first + length p.commands ≤ have_of q → false ≡ conflicts (part_from p) q
agrees-old p q old =
    let long = length-map p.commands sent_from in
    let e : nat_lt (have_of q) (p.first + length (map sent_from p.commands)) ≡ false = le-ltb (have_of q) (p.first + length (map sent_from p.commands)) (omega arith) in
    rw e refl

new-is : (p : wire.Part) (q : Queue) → have_of q < p.first + length p.commands → nat_lt (have_of q) (p.first + length (map sent_from p.commands)) ≡ true
new-is p q new = (let long = length-map p.commands sent_from in lt-ltb (have_of q) (p.first + length (map sent_from p.commands)) (omega arith))

-- a gap
pub agrees-behind : (p : wire.Part) (q : Queue) → have_of q < p.first → have_of q < p.first + length p.commands → nat_lt p.before (last_time q.gone q.commands) ≡ conflicts (part_from p) q
agrees-behind p q gap new =
    let e = new-is p q new in
    let b : nat_lt (have_of q) p.first ≡ true = lt-ltb (have_of q) p.first gap in
    rw e (rw b refl)

-- it goes on
pub agrees-on :
    (p : wire.Part) (q : Queue) → p.first ≤ have_of q → have_of q < p.first + length p.commands
    → not (last_time p.before (take (have_of q - p.first) (map sent_from p.commands)) == last_time q.gone q.commands) ≡ conflicts (part_from p) q
agrees-on p q on new =
    let e = new-is p q new in
    let b : nat_lt (have_of q) p.first ≡ false = le-ltb (have_of q) p.first on in
    rw e (rw b refl)

not-not : (x y : ℕ) → not (x == y) ≡ false → x ≡ y
not-not x y h = grind (arith, nat_tests)

-- ---- what follows may be counted

sent-drop : (payload k t : ℕ) (cs : List wire.Sent) → AreSent payload t cs → AreSent payload (last_time t (take k (map sent_from cs))) (drop k cs)
unfolding last_time
sent-drop payload zero t cs h = h
sent-drop payload (suc k) t [] h = tt
sent-drop payload (suc k) t (c ∷ cs) h = sent-drop payload k c.time cs h.1

sent-none : (payload t : ℕ) (cs : List wire.Sent) → cs ≡ [] → AreSent payload t cs
sent-none payload t cs none = subst (λ (l : List wire.Sent). AreSent payload t l) (sym none) tt

-- the new commands of a part follow what was counted
pub sent-on :
    (payload : ℕ) (p : wire.Part) (q : Queue) → p.first ≤ have_of q → conflicts (part_from p) q ≡ false → AreSent payload p.before p.commands
    → AreSent payload (last_time q.gone q.commands) (drop (have_of q - p.first) p.commands)
sent-on payload p q on agrees h =
    elim (nat_lt (have_of q) (p.first + length p.commands)) as (λ v. nat_lt (have_of q) (p.first + length p.commands) ≡ v → AreSent payload (last_time q.gone q.commands) (drop (have_of q - p.first) p.commands)) [
      | true ↦ λ e.
          let same = not-not (last_time p.before (take (have_of q - p.first) (map sent_from p.commands))) (last_time q.gone q.commands) (agrees-on p q on (ltb-true (have_of q) (p.first + length p.commands) e) ∙ agrees) in
          subst (λ (t : ℕ). AreSent payload t (drop (have_of q - p.first) p.commands)) same (sent-drop payload (have_of q - p.first) p.before p.commands h)
      | false ↦ λ e.
          let old = ltb-false (have_of q) (p.first + length p.commands) e in
          sent-none payload (last_time q.gone q.commands) (drop (have_of q - p.first) p.commands) (drop_of_length-le p.commands (omega arith))
    ] refl

and-left : (a b : Bool) → (a && b) ≡ true → a ≡ true
and-left true b h = refl
and-left false b h = h

and-right : (a b : Bool) → (a && b) ≡ true → b ≡ true
and-right true b h = h
and-right false b h = absurd (let k : false ≡ true = h in cc)

-- a command may stand behind another
pub sent-right : (payload before : ℕ) (c : wire.Sent) → IsSent payload before c → (before ≤ c.time) × (length c.payload ≤ payload)
sent-right payload before c h =
    let both = h.follows in
    (leb-true before c.time (and-left (nat_le before c.time) (nat_le (length c.payload) payload) both), leb-true (length c.payload) payload (and-right (nat_le before c.time) (nat_le (length c.payload) payload) both))

-- commands may stand behind a time, with nothing between
pub sent-alone : (g : ℕ) (cs : List wire.Sent) → AreSent 64 g cs → AreSent 64 (last_time g []) cs
unfolding last_time
sent-alone g cs h = h

-- ---- out of a snapshot

first-of : (late count before base n : ℕ) → is_queue base n (record { late = late; count = count; before = before }) ≡ true
    → (late + count ≤ n) × ((count ≡ n → before ≡ 0) × (before ≤ base))
unfolding is_queue
first-of late count before base n h =
    let a = nat_le (late + count) n in
    let b : Bool = cond (count == n) (before == 0) (nat_lt before base) in
    let least = leb-true (late + count) n (and-left a b h) in
    let rest : b ≡ true = and-right a b h in (
      least,
      (
        (λ same. (let e : (count == n) ≡ true = eq-eqb count n same in eqb-true before 0 (rw e at rest))),
        elim (count == n) as (λ v. cond v (before == 0) (nat_lt before base) ≡ true → before ≤ base) [
          | true ↦ λ is. (let none = eqb-true before 0 is in omega arith)
          | false ↦ λ is. (let less = ltb-true before base is in omega arith)
        ] rest,
      ),
    )

-- what is handed over of a slot with so many commands
pub record Handed (have : ℕ) (q : snapshot.Queue) : Type 0 where
  pub late : q.late + length q.commands ≤ have
  pub none_gone : length q.commands ≡ have → q.before ≡ 0
  pub sent : AreSent 64 q.before q.commands

pub handed : (have : ℕ) (q : snapshot.Queue) → IsHandedOver have q → Handed have q
handed have q h =
    let base = h.0 in
    let is = h.1 in
    let first = first-of q.late (length q.commands) q.before base have is.head in
    record {
      late = first.0;
      none_gone = first.1.0;
      sent = AreSent-wider 64 64 base q.before q.commands (omega arith) first.1.1 is.commands;
    }
