-- What is due for another peer, and hearing that nothing stops.
use Rattle.std.specs.Prelude.{◌≡◌, ℕ, zero, suc, ◌+◌, ◌-◌, ◌≤◌, ◌<◌, true, max, nat_lt, nat_le, ◌==◌, ◌&&◌, if◌then◌else◌, Option, Some, None, List, [], ◌∷◌, ◌++◌, length}
use Rattle.game_trait.specs.Count.{times}
use Rattle.peer_model.specs.Queue.{Sent, Queue, Part, have_of, is_behind}
use Rattle.peer_model.specs.Peer.{Peer, Span, clock_of, bound_of, hears_part}

-- the end of the numbers of a slot that a peer sends: all of its own, and of another those that were due so many
-- ticks ago
abbrev pub end_from : ℕ → ℕ → ℕ → (ℕ → Queue) → ℕ → ℕ
end_from me relay o queues clock =
    if o == me then have_of (queues o)
    else (queues o).kept + times (λ x. nat_le (x.time + relay) clock) (queues o).commands

abbrev pub end_of : {W : Type 0} → ℕ → ℕ → ℕ → Peer W → ℕ
end_of me relay o m = end_from me relay o m.queues (clock_of m)

-- what is due of a slot for another peer: the numbers from what it is known to have, or from what is remembered,
-- or, where there is none of these and it may lack some that are forgotten, an empty span that tells it
abbrev pub due_from : ℕ → ℕ → ℕ → (ℕ → Queue) → (ℕ → ℕ) → ℕ → Option Span
due_from me relay o queues known clock =
    let q = queues o in
    let e = end_from me relay o queues clock in
    let first = max (known o) q.kept in
    if nat_lt first e then Some (record { origin = o; first = first; count = e - first })
    else (if nat_lt (known o) q.kept && (q.kept == e) then Some (record { origin = o; first = q.kept; count = 0 })
    else None)

abbrev pub due_of : {W : Type 0} → ℕ → ℕ → ℕ → ℕ → Peer W → Option Span
due_of me relay to o m = due_from me relay o m.queues (m.known to) (clock_of m)

abbrev pub listed : Option Span → List Span
listed None = []
listed (Some s) = s ∷ []

-- all that is due for another peer of the first so many slots, by rising slot, and of its own nothing
unfoldable pub due_spans : ℕ → ℕ → ℕ → (ℕ → Queue) → (ℕ → ℕ) → ℕ → ℕ → List Span
due_spans me relay to queues known clock zero = []
due_spans me relay to queues known clock (suc o) =
    due_spans me relay to queues known clock o
    ++ (if o == to then [] else listed (due_from me relay o queues known clock))

-- nothing stops a part: no gap, and all of its commands that are new are counted
pub record IsWhole (bound most : ℕ) (p : Part) (q : Queue) : Type 0 where
  pub no_gap : is_behind p q ≡ true → p.before < bound
  pub all : length p.commands ≤ most

-- nothing stops the parts of a packet
unfoldable pub AreWhole : {W : Type 0} → (ℕ → List Sent) → (ℕ → ℕ) → List Part → Peer W → Type 0
AreWhole log most [] m = Unit {0}
AreWhole log most (p ∷ ps) m =
    IsWhole (bound_of m) (most 0) p (m.queues p.origin)
    × AreWhole log (λ place. most (suc place)) ps (hears_part log (most 0) p m)
