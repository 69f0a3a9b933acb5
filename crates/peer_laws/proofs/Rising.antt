-- Parts that are due stand by rising slot.
use Rattle.std.proofs.Common.{◌≡◌, sym, subst, ℕ, zero, suc, ◌+◌, ◌≤◌, Bool, true, false, cond, ◌==◌, ◌&&◌, Option, Some, None, List, [], ◌∷◌, ◌++◌, map, refl, arith}
use Rattle.std.specs.Prelude.{nat_lt, max, ◌-◌}
use Rattle.std.proofs.lemmas.List.{append-nil}
use Rattle.peer_model.specs.Queue.{Queue}
use Rattle.peer_model.specs.Peer.{Span}
use Rattle.peer_model.specs.Due.{end_from, due_from, listed, due_spans}
use Rattle.peer_packet.proofs.Goes.{Rises}
use Rattle.peer_calls.specs.Sending.{span_part}

-- spans of rising slots, from one on and below another
unfoldable SpansRise : ℕ → List Span → ℕ → Type 0
SpansRise least [] end = least ≤ end
SpansRise least (s ∷ ss) end = (least ≤ s.origin) × SpansRise (s.origin + 1) ss end

none-rise : SpansRise 0 [] 0
unfolding SpansRise
none-rise = omega arith

append-none : (ss : List Span) → ss ≡ ss ++ []
append-none ss = sym (append-nil ss)

longer : (least : ℕ) (ss : List Span) (o : ℕ) → SpansRise least ss o → SpansRise least ss (suc o)
unfolding SpansRise
longer least [] o h = omega arith
longer least (s ∷ ss) o h = (h.0, longer (s.origin + 1) ss o h.1)

push : (least : ℕ) (ss : List Span) (o : ℕ) (s : Span) → s.origin ≡ o → SpansRise least ss o → SpansRise least (ss ++ s ∷ []) (suc o)
unfolding SpansRise
push least [] o s is h = (omega arith, omega arith)
push least (t ∷ ss) o s is h = (h.0, push (t.origin + 1) ss o s is h.1)

-- what is due of a slot is of that slot
abbrev IsOf : ℕ → Option Span → Type 0
IsOf o None = Unit {0}
IsOf o (Some s) = s.origin ≡ o

due-is : (me relay o : ℕ) (queues : ℕ → Queue) (known : ℕ → ℕ) (clock : ℕ) → IsOf o (due_from me relay o queues known clock)
due-is me relay o queues known clock =
    let q = queues o in
    let e = end_from me relay o queues clock in
    let first = max (known o) q.kept in
    let some : Span = record { origin = o; first = first; count = e - first } in
    let empty : Span = record { origin = o; first = q.kept; count = 0 } in
    elim (nat_lt first e) as (λ v. IsOf o (cond v (Some some) (cond (nat_lt (known o) q.kept && (q.kept == e)) (Some empty) None))) [
      | true ↦ refl
      | false ↦ elim (nat_lt (known o) q.kept && (q.kept == e)) as (λ v. IsOf o (cond v (Some empty) None)) [ true ↦ refl | false ↦ tt ]
    ]

push-listed : (ss : List Span) (o : ℕ) (s : Option Span) → IsOf o s → SpansRise 0 ss o → SpansRise 0 (ss ++ listed s) (suc o)
push-listed ss o None is h = longer 0 (ss ++ []) o (subst (λ (l : List Span). SpansRise 0 l o) (append-none ss) h)
push-listed ss o (Some s) is h = push 0 ss o s is h

push-if : (b : Bool) (ss : List Span) (o : ℕ) (s : Option Span) → IsOf o s → SpansRise 0 ss o → SpansRise 0 (ss ++ cond b [] (listed s)) (suc o)
push-if true ss o s is h = push-listed ss o None tt h
push-if false ss o s is h = push-listed ss o s is h

spans-rise : (me relay to : ℕ) (queues : ℕ → Queue) (known : ℕ → ℕ) (clock slots : ℕ) → SpansRise 0 (due_spans me relay to queues known clock slots) slots
unfolding due_spans
spans-rise me relay to queues known clock zero = none-rise
spans-rise me relay to queues known clock (suc o) =
    push-if (o == to) (due_spans me relay to queues known clock o) o (due_from me relay o queues known clock) (due-is me relay o queues known clock) (spans-rise me relay to queues known clock o)

parts-rise : (queues : ℕ → Queue) (least : ℕ) (ss : List Span) (end : ℕ) → SpansRise least ss end → Rises least (map (span_part queues) ss)
unfolding SpansRise Rises
parts-rise queues least [] end h = tt
parts-rise queues least (s ∷ ss) end h = (h.0, parts-rise queues (s.origin + 1) ss end h.1)

pub due-rises : (me relay to : ℕ) (queues : ℕ → Queue) (known : ℕ → ℕ) (clock slots : ℕ) → Rises 0 (map (span_part queues) (due_spans me relay to queues known clock slots))
due-rises me relay to queues known clock slots =
    parts-rise queues 0 (due_spans me relay to queues known clock slots) slots (spans-rise me relay to queues known clock slots)
