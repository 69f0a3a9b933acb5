-- A packet with all that is due, of which nothing is stopped, brings all that its maker sends.
use Rattle.std.proofs.Common.{◌≡◌, ℕ, suc, ◌+◌, ◌-◌, ◌≤◌, ◌<◌, max, true, false, cond, ◌==◌, ◌&&◌, nat_lt, nat_le, Some, None, List, [], ◌∷◌, length, drop, Contains, refl, ap, sym, ◌∙◌, arith}
use Rattle.std.specs.List.{AllByRecursion}
use Rattle.std.proofs.Math.ListN.{length-append, length-take, length-drop}
use Rattle.std.proofs.lemmas.Bool.{ltb-true, ltb-false}
use Rattle.std.proofs.lemmas.Bool.Decides.{nat_tests}
use Rattle.std.proofs.lemmas.List.Elements.{All-from_recursion, All-contains}
use Rattle.game_trait.specs.Count.{times}
use Rattle.game_trait.proofs.Counts.{times-most}
use Rattle.peer_model.specs.Queue.{Sent, Queue, Part, have_of, part_of, is_behind, skipped, news, joined, heard_part}
use Rattle.peer_model.specs.Peer.{Peer, Span, put, clock_of, bound_of, packet_of, hears_part, hears_parts, heard_head}
use Rattle.peer_model.specs.Net.{Net, IsSession}
use Rattle.peer_model.specs.Due.{end_from, end_of, due_of, IsWhole, AreWhole}
use Rattle.peer_model.proofs.Counting.{put-same}
use Rattle.peer_model.proofs.Peers.{put-all}

-- hearing a part never lowers what was counted
heard-cases :
    (bound most : ℕ) (p : Part) (q : Queue) (Q : Queue → Type 0)
    → (have_of q < p.first → p.before < bound → Q (joined bound (news most p (skipped p q)) (skipped p q)))
    → (have_of q < p.first → (nat_lt p.before bound ≡ false) → Q q)
    → (p.first ≤ have_of q → Q (joined bound (news most p q) q))
    → Q (heard_part bound most p q)
heard-cases bound most p q Q late gap next =
    elim (is_behind p q) as (λ v. is_behind p q ≡ v → Q (cond v (cond (nat_lt p.before bound) (joined bound (news most p (skipped p q)) (skipped p q)) q) (joined bound (news most p q) q))) [
      | true ↦ λ e. elim (nat_lt p.before bound) as (λ v. nat_lt p.before bound ≡ v → Q (cond v (joined bound (news most p (skipped p q)) (skipped p q)) q)) [
        | true ↦ λ l. late (ltb-true (have_of q) p.first e) (ltb-true p.before bound l)
        | false ↦ λ l. gap (ltb-true (have_of q) p.first e) l
      ] refl
      | false ↦ λ e. next (ltb-false (have_of q) p.first e)
    ]
    refl

heard-grows : (bound most : ℕ) (p : Part) (q : Queue) → have_of q ≤ have_of (heard_part bound most p q)
heard-grows bound most p q =
    heard-cases bound most p q (λ r. have_of q ≤ have_of r)
    (λ behind late. (let more = length-append [] (news most p (skipped p q)) in omega arith))
    (λ behind gap. omega arith)
    (λ next. (let more = length-append q.commands (news most p q) in omega arith))

-- a part that nothing stops is had
pub heard-whole : (bound most : ℕ) (p : Part) (q : Queue) → IsWhole bound most p q → p.first + length p.commands ≤ have_of (heard_part bound most p q)
heard-whole bound most p q h =
    let all = h.all in
    heard-cases bound most p q (λ r. p.first + length p.commands ≤ have_of r)
    (λ behind late. (
    let z = skipped p q in
    let took = length-take most (drop (have_of z - p.first) p.commands) in
    let left = length-drop (have_of z - p.first) p.commands in
    let more = length-append [] (news most p z) in
    omega arith))
    (λ behind gap. absurd (let late = h.no_gap (let e : is_behind p q ≡ true = grind (arith, nat_tests) in e) in let off : nat_lt p.before bound ≡ true = grind (arith, nat_tests) in let never : false ≡ true = sym gap ∙ off in cc))
    (λ next. (
    let took = length-take most (drop (have_of q - p.first) p.commands) in
    let left = length-drop (have_of q - p.first) p.commands in
    let more = length-append q.commands (news most p q) in
    omega arith))

parts-grow : {W : Type 0} (log : ℕ → List Sent) (most : ℕ → ℕ) (ps : List Part) (m : Peer W) (o : ℕ) → have_of (m.queues o) ≤ have_of ((hears_parts log most ps m).queues o)
unfolding hears_parts
parts-grow log most [] m o = omega arith
parts-grow log most (p ∷ ps) m o =
    let r = heard_part (bound_of m) (most 0) p (m.queues p.origin) in
    let one : have_of (m.queues o) ≤ have_of (put p.origin r m.queues o) =
    put-all (λ j s. have_of (m.queues j) ≤ have_of s) p.origin r m.queues (heard-grows (bound_of m) (most 0) p (m.queues p.origin)) (λ j. omega arith) o in
    let more = parts-grow log (λ place. most (suc place)) ps (hears_part log (most 0) p m) o in
    omega arith

pub parts-whole :
    {W : Type 0} (log : ℕ → List Sent) (most : ℕ → ℕ) (ps : List Part) (m : Peer W) → AreWhole log most ps m
    → AllByRecursion (λ p. p.first + length p.commands ≤ have_of ((hears_parts log most ps m).queues p.origin)) ps
unfolding hears_parts AreWhole
parts-whole log most [] m h = tt
parts-whole log most (p ∷ ps) m h =
    let next = hears_part log (most 0) p m in
    let r = heard_part (bound_of m) (most 0) p (m.queues p.origin) in
    let here = heard-whole (bound_of m) (most 0) p (m.queues p.origin) h.0 in
    let at : have_of (put p.origin r m.queues p.origin) ≡ have_of r = ap have_of (put-same p.origin r m.queues) in
    let more = parts-grow log (λ place. most (suc place)) ps next p.origin in
    (omega arith, parts-whole log (λ place. most (suc place)) ps next h.1)

-- the end of what is sent is no more than what was counted, and no less than what is remembered
pub end-within : (me relay o : ℕ) (queues : ℕ → Queue) (clock : ℕ) → ((queues o).kept ≤ end_from me relay o queues clock) × (end_from me relay o queues clock ≤ have_of (queues o))
end-within me relay o queues clock =
    let q = queues o in
    let passed_on = times (λ (x : Sent). nat_le (x.time + relay) clock) q.commands in
    let most = times-most (λ (x : Sent). nat_le (x.time + relay) clock) q.commands in
    elim (o == me) as (λ v. (q.kept ≤ cond v (have_of q) (q.kept + passed_on)) × (cond v (have_of q) (q.kept + passed_on) ≤ have_of q))
    [ true ↦ (omega arith, omega arith) | false ↦ (omega arith, omega arith) ]

-- what the other has, where what is due is in a packet and nothing of it stopped
pub due-brings :
    {W : Type 0} (slots me relay to o : ℕ) (spans : List Span) (most : ℕ → ℕ) (n : Net W) → IsSession slots n
    → let m = n.peers me in let p = packet_of slots me to spans m in let h = heard_head p (n.peers to) in
    AreWhole n.log most p.parts h
    → ((s : Span) → due_of me relay to o m ≡ Some s → Contains p.parts (part_of s.origin s.first s.count (m.queues s.origin)))
    → end_of me relay o m ≤ have_of ((hears_parts n.log most p.parts h).queues o)
due-brings {W} slots me relay to o spans most n s whole has =
    let m = n.peers me in
    let q = m.queues o in
    let p = packet_of slots me to spans m in
    let h = heard_head p (n.peers to) in
    let e = end_of me relay o m in
    let k = m.known to o in
    let first = max k q.kept in
    let done = hears_parts n.log most p.parts h in
    let within = end-within me relay o m.queues (clock_of m) in
    let up = parts-grow n.log most p.parts h o in
    let known = s.known me to o in
    let all = All-from_recursion (λ (a : Part). a.first + length a.commands ≤ have_of (done.queues a.origin)) p.parts (parts-whole n.log most p.parts h whole) in
    let brought = λ (a : Span) (c : Contains p.parts (part_of a.origin a.first a.count (m.queues a.origin))). All-contains (λ (b : Part). b.first + length b.commands ≤ have_of (done.queues b.origin)) p.parts (part_of a.origin a.first a.count (m.queues a.origin)) all c in
    let one : Span = record { origin = o; first = first; count = e - first } in
    let none : Span = record { origin = o; first = q.kept; count = 0 } in
    elim (nat_lt first e) as (λ v. nat_lt first e ≡ v → cond v (Some one) (cond (nat_lt k q.kept && (q.kept == e)) (Some none) None) ≡ due_of me relay to o m → e ≤ have_of (done.queues o)) [
      | true ↦ λ a is.
          let some = brought one (has one (sym is)) in
          let below = ltb-true first e a in
          let took = length-take (e - first) (drop (first - q.kept) q.commands) in
          let left = length-drop (first - q.kept) q.commands in
          let a = within.0 in
          let b = within.1 in
          omega arith
      | false ↦ λ a. elim (nat_lt k q.kept && (q.kept == e)) as (λ v. (nat_lt k q.kept && (q.kept == e)) ≡ v → cond v (Some none) None ≡ due_of me relay to o m → e ≤ have_of (done.queues o)) [
        | true ↦ λ b is.
            let some = brought none (has none (sym is)) in
            let same : q.kept ≡ e = grind (arith, nat_tests) in
            let took = length-take 0 (drop (q.kept - q.kept) q.commands) in
            omega arith
        | false ↦ λ b is.
            let above = ltb-false first e a in
            let low = within.0 in
            let enough : e ≤ k = grind (arith, nat_tests) in
            omega arith
      ] refl
    ]
    refl refl
