-- What a hearing tells, by what of it stands behind the packet's parts.
use Rattle.std.specs.Prelude.{◌≡◌, ◌≢◌, ℕ, zero, suc, ◌+◌, ◌-◌, Bool, true, false, max, not, nat_lt, ◌==◌, ◌&&◌, ◌||◌, if◌then◌else◌, Option, Some, List, [], ◌∷◌, ◌++◌, length, drop}
use Rattle.std.specs.List.{Any}
use Rattle.rolling_mirror.specs.declared.arrival.Arrival.{Arrival}
use Rattle.rolling_mirror.specs.declared.arrival.Arrival.TheVariants.{Taken, Repeat, Late, Far, Full}
use Rattle.rolling_mirror.specs.Rolling.{RollState, last_tick, said_to_arrival, arrived}
use Rattle.peer_model.specs.Queue.{Sent, Queue, Part, have_of, is_behind, skipped, joined}
use Rattle.peer_model.specs.declared.mark.Mark.{Mark}
use Rattle.peer_window.specs.Window.{RollPeer, next_command, counts, rolls_part, with_heard}

-- the sum over the first so many slots
unfoldable pub total : ℕ → (ℕ → ℕ) → ℕ
total zero f = 0
total (suc o) f = total o f + f o

-- ---- behind each part

-- a part, and the peer when it was heard
pub record Station (W : Type 0) : Type 0 where
  pub part : Part
  pub peer : RollPeer W

unfoldable pub stations : {W : Type 0} → ℕ → List Part → RollPeer W → List (Station W)
stations room [] v = []
stations room (p ∷ ps) v =
    let w = with_heard p.origin (rolls_part room p (v.queues p.origin) v.roll) v in
    record { part = p; peer = w } ∷ stations room ps w

-- its slot's queue then
abbrev pub queue_at : {W : Type 0} → Station W → Queue
queue_at x = x.peer.queues x.part.origin

-- its commands that weren't counted then
abbrev pub left_at : {W : Type 0} → Station W → List Sent
left_at x = drop (have_of (queue_at x) - x.part.first) x.part.commands

-- what is missing before it wasn't given up
abbrev pub is_gap : {W : Type 0} → Station W → Bool
is_gap x = is_behind x.part (queue_at x)

abbrev pub is_far : Arrival → Bool
is_far (Taken repaired) = false
is_far Repeat = false
is_far (Late bound) = false
is_far (Far end) = true
is_far Full = false

abbrev pub is_full : Arrival → Bool
is_full (Taken repaired) = false
is_full Repeat = false
is_full (Late bound) = false
is_full (Far end) = false
is_full Full = true

-- the next of these is due where the window doesn't reach
abbrev pub is_next_far : {W : Type 0} → ℕ → ℕ → List Sent → Queue → RollState W → Bool
is_next_far room o [] q r = false
is_next_far room o (x ∷ xs) q r =
    not (length q.commands == room) && is_far (said_to_arrival r (next_command o x q))

-- for the next of these the queue has no room, or the mirror
abbrev pub is_next_full : {W : Type 0} → ℕ → ℕ → List Sent → Queue → RollState W → Bool
is_next_full room o [] q r = false
is_next_full room o (x ∷ xs) q r =
    (length q.commands == room) || is_full (said_to_arrival r (next_command o x q))

-- a part that isn't behind a gap stopped so
abbrev pub stops_far : {W : Type 0} → ℕ → Station W → Bool
stops_far room x =
    not (is_gap x) && is_next_far room x.part.origin (left_at x) (queue_at x) x.peer.roll

abbrev pub stops_full : {W : Type 0} → ℕ → Station W → Bool
stops_full room x =
    not (is_gap x) && is_next_full room x.part.origin (left_at x) (queue_at x) x.peer.roll

-- ---- the mirror's answers

-- to those of the next commands of a slot that are counted
unfoldable pub answers_each : {W : Type 0} → ℕ → ℕ → List Sent → Queue → RollState W → List Arrival
answers_each room o [] q r = []
answers_each room o (x ∷ xs) q r =
    if counts room o x q r
    then said_to_arrival r (next_command o x q)
    ∷ answers_each room o xs (joined (last_tick r) (x ∷ []) q) (arrived r (next_command o x q) (said_to_arrival r (next_command o x q)))
    else []

-- to those commands of a part that are counted: none where it is left for a gap
abbrev pub answers_part : {W : Type 0} → ℕ → Part → Queue → RollState W → List Arrival
answers_part room p q r =
    if is_behind p q
    then (if nat_lt p.before (last_tick r) then answers_each room p.origin p.commands (skipped p q) r else [])
    else answers_each room p.origin (drop (have_of q - p.first) p.commands) q r

unfoldable pub answers_all : {W : Type 0} → ℕ → List Part → RollPeer W → List Arrival
answers_all room [] v = []
answers_all room (p ∷ ps) v =
    answers_part room p (v.queues p.origin) v.roll
    ++ answers_all room ps (with_heard p.origin (rolls_part room p (v.queues p.origin) v.roll) v)

abbrev pub repaired_by : Arrival → ℕ
repaired_by (Taken repaired) = repaired
repaired_by Repeat = 0
repaired_by (Late bound) = 0
repaired_by (Far end) = 0
repaired_by Full = 0

unfoldable pub most_repaired : List Arrival → ℕ
most_repaired [] = 0
most_repaired (a ∷ ys) = max (repaired_by a) (most_repaired ys)

-- ---- marks

-- a mark has the tick of one of these, and another sum
abbrev pub IsAnother : Option (ℕ × ℕ) → List Mark → Type 0
IsAnother mark own = (x : ℕ × ℕ) × (mark ≡ Some x) × Any (λ y. (x.0 ≡ y.tick) × (x.1 ≢ y.sum)) own
