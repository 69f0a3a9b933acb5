-- What is due of a slot.
use Rattle.std.proofs.Common.{◌≡◌, ℕ, ◌+◌, ◌-◌, ◌^◌, ◌≤◌, ◌<◌, max, Bool, true, false, cond, ◌==◌, ◌&&◌, nat_lt, Option, Some, None, List, [], ◌∷◌, map, refl, ap, sym, subst, ◌∙◌, arith}
use Rattle.std.specs.Prelude.{IfSome}
use Rattle.std.proofs.lemmas.Bool.{ltb-true}
use Rattle.std.proofs.Math.ListN.{length-map}
use Rattle.peer_model.specs.Queue.{Queue, have_of, part_of}
use Rattle.peer_model.specs.Peer.{Span}
use Rattle.peer_model.specs.Due.{end_from, due_from, listed}
use Rattle.peer_model.proofs.Progress.{end-within}
use Rattle.peer_packet.specs.declared.filling.Piece.{Piece}
use Rattle.peer_packet.specs.Packet as wire
use Rattle.peer_packet.specs.Filling as fill
use Rattle.peer_packet.specs.Filling.{weight}
use Rattle.peer_calls.specs.Wire.{as_sent, as_part}
use Rattle.peer_calls.specs.Sending.{span_part}
use Rattle.peer_queue.specs.Piece.{span_of, IsPieceOf}
use Rattle.peer_sending.specs.Pieces.{Fits, parts_of}
use Rattle.peer_sending.specs.Supply.{Supply, sent_at, piece_weight, due_at}
use Rattle.peer_sending.proofs.Behind.{many}
use Rattle.peer_sending.proofs.Walks.{Stands}

-- a span of this slot, within what is there
pub record IsOf (o : ℕ) (q : Queue) (s : Span) : Type 0 where
  pub slot : s.origin ≡ o
  pub within : s.first + s.count ≤ have_of q

pub due-of : (me relay o : ℕ) (queues : ℕ → Queue) (known : ℕ → ℕ) (clock : ℕ) → IfSome (due_from me relay o queues known clock) (IsOf o (queues o))
due-of me relay o queues known clock =
    let q = queues o in
    let e = end_from me relay o queues clock in
    let ends = end-within me relay o queues clock in
    let low = ends.0 in
    let high = ends.1 in
    let first = max (known o) q.kept in
    let Good : Option Span → Type 0 = λ x. IfSome x (IsOf o q) in
    let one : Span = record { origin = o; first = first; count = e - first } in
    let none : Span = record { origin = o; first = q.kept; count = 0 } in
    elim (nat_lt first e) as (λ v. nat_lt first e ≡ v → Good (cond v (Some one) (cond (nat_lt (known o) q.kept && (q.kept == e)) (Some none) None))) [
      | true ↦ λ l. (let below = ltb-true first e l in record { slot = refl; within = omega arith })
      | false ↦ λ l. elim (nat_lt (known o) q.kept && (q.kept == e)) as (λ v. Good (cond v (Some none) None))
          [ true ↦ record { slot = refl; within = omega arith } | false ↦ tt ]
    ]
    refl

-- a piece that is the span that is due
tells : (o : ℕ) (queues : ℕ → Queue) (x : Piece) → IfSome (span_of (Some x)) (IsOf o (queues o)) → IsPieceOf (queues o) x
    → fill.part_of x (map as_sent (queues o).commands) ≡ span_part queues (record { origin = x.origin; first = x.first; count = x.count })
tells o queues x is piece = piece.part ∙ ap (λ (n : ℕ). as_part (part_of x.origin x.first x.count (queues n))) (sym is.slot)

parts-as : (s : Supply) (o : ℕ) (r : Option Piece) → IfSome (span_of r) (IsOf o (s.queues o)) → IfSome r (IsPieceOf (s.queues o))
    → parts_of r (sent_at s o) ≡ map (span_part s.queues) (listed (span_of r))
parts-as s o None is piece = refl
parts-as s o (Some x) is piece = ap (λ (p : wire.Part). p ∷ []) (tells o s.queues x is piece)

pub due-parts : (s : Supply) (o : ℕ) (r : Option Piece) → (o == s.to) ≡ false → span_of r ≡ due_from s.me s.relay o s.queues s.known s.clock → IfSome r (IsPieceOf (s.queues o))
    → parts_of r (sent_at s o) ≡ due_at s o
due-parts s o r other span piece =
    let Is : Option Span → Type 0 = λ d. IfSome d (IsOf o (s.queues o)) in
    let is : Is (span_of r) = subst Is (sym span) (due-of s.me s.relay o s.queues s.known s.clock) in
    parts-as s o r is piece
    ∙ ap (λ (d : Option Span). map (span_part s.queues) (listed d)) span
    ∙ ap (λ (b : Bool). map (span_part s.queues) (cond b [] (listed (due_from s.me s.relay o s.queues s.known s.clock)))) (sym other)

fits-as : (q : Queue) (o : ℕ) (r : Option Piece) → have_of q < 2 ^ 32 → IfSome (span_of r) (IsOf o q) → IfSome r (IsPieceOf q) → IfSome r (λ x. Fits x (map as_sent q.commands))
fits-as q o None small is piece = tt
fits-as q o (Some x) small is piece =
    let long = length-map q.commands as_sent in
    let there = piece.there in
    let few = piece.few in
    let within = is.within in
    record { there = omega arith; few = omega arith; numbers = omega arith; places = omega arith }

pub due-fits : (s : Supply) (o : ℕ) (r : Option Piece) → have_of (s.queues o) < 2 ^ 32 → span_of r ≡ due_from s.me s.relay o s.queues s.known s.clock → IfSome r (IsPieceOf (s.queues o))
    → IfSome r (λ x. Fits x (sent_at s o))
due-fits s o r small span piece =
    let Is : Option Span → Type 0 = λ d. IfSome d (IsOf o (s.queues o)) in
    fits-as (s.queues o) o r small (subst Is (sym span) (due-of s.me s.relay o s.queues s.known s.clock)) piece

pub none-due : (s : Supply) (o : ℕ) → (o == s.to) ≡ true → [] ≡ due_at s o
none-due s o same = ap (λ (b : Bool). map (span_part s.queues) (cond b [] (listed (due_from s.me s.relay o s.queues s.known s.clock)))) (sym same)

-- ---- weights of pieces

pub few-of : (cs : List wire.Sent) (r : Option Piece) → IfSome r (λ x. Fits x cs) → IfSome r (λ x. x.count < 2 ^ 16)
few-of cs None h = tt
few-of cs (Some x) h = h.few

pub weight-of : (cs : List wire.Sent) (r : Option Piece) → IfSome r (λ x. Fits x cs) → piece_weight r ≡ weight (parts_of r cs)
unfolding weight
weight-of cs None h = refl
weight-of cs (Some x) h = (let long = many x cs h.there in omega arith)

pub light : (cs : List wire.Sent) (r : Option Piece) → IfSome r (λ x. Fits x cs) → piece_weight r ≤ 65536
light cs None h = omega arith
light cs (Some x) h = (let few = h.few in omega arith)

-- ---- one part a slot

of-due : (s : Supply) (o : ℕ) (d : Option Span) → IfSome d (IsOf o (s.queues o)) → Stands o (map (span_part s.queues) (listed d))
unfolding Stands
of-due s o None h = tt
of-due s o (Some x) h = h.slot

pub due-stands : (s : Supply) (o : ℕ) → Stands o (due_at s o)
unfolding Stands
due-stands s o =
    let due = due_from s.me s.relay o s.queues s.known s.clock in
    elim (o == s.to) as (λ v. Stands o (map (span_part s.queues) (cond v [] (listed due)))) [
      | true ↦ tt
      | false ↦ of-due s o due (due-of s.me s.relay o s.queues s.known s.clock)
    ]
