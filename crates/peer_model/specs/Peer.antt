-- A peer, beside a mirror that remembers all, and the packets that it makes and hears.
use Rattle.std.specs.Prelude.{◌≡◌, ℕ, zero, suc, ◌+◌, ◌-◌, ◌≤◌, ◌<◌, Bool, max, nat_lt, nat_le, ◌==◌, ◌&&◌, ◌||◌, if◌then◌else◌, List, [], ◌∷◌, ◌++◌, take, map, filter}
use Rattle.std.specs.List.{AllByRecursion, AllZip, list_any}
use Rattle.game_trait.specs.declared.command.Act.TheVariants.{Go}
use Rattle.game_trait.specs.declared.command.Command.{Command}
use Rattle.game_trait.specs.declared.event.Event.{Event}
use Rattle.game_trait.specs.declared.event.Event.TheVariants.{Arrive}
use Rattle.game_trait.specs.Count.{times}
use Rattle.game_trait.specs.Keys.{NamesDiffer}
use Rattle.game_trait.specs.Run.{beats}
use Rattle.sync_model.specs.declared.turned.Turned.{Turned}
use Rattle.sync_model.specs.State.{MirrorState, last_clock}
use Rattle.sync_model.specs.Change.{after}
use Rattle.sync_model.specs.Staggered.{IsTrailing}
use Rattle.peer_model.specs.Queue.{Sent, Queue, Part, new_queue, have_of, last_time, piece, trimmed, with_own, part_of, conflicts, heard_part, IsFront}

-- what a peer knows, by slot: its queues, what each other one is known to have, and the newest clock that was
-- heard of it; beside them the mirror that remembers all, at which each counted command arrived
pub record Peer (W : Type 0) : Type 0 where
  pub queues : ℕ → Queue
  pub known : ℕ → ℕ → ℕ
  pub heard : ℕ → ℕ
  pub whole : MirrorState W

-- a packet: who made it and for whom, the maker's clock and the newest clock that it heard of the other, how many
-- commands of each slot it has, and pieces of slots
pub record Packet : Type 0 where
  pub sender : ℕ
  pub to : ℕ
  pub clock : ℕ
  pub echo : ℕ
  pub have : ℕ → ℕ
  pub parts : List Part

-- what stands at one place is replaced
abbrev pub put : {X : Type 0} → ℕ → X → (ℕ → X) → ℕ → X
put o x f p = if p == o then x else f p

-- a peer's clock, and its last copy's
abbrev pub clock_of : {W : Type 0} → Peer W → ℕ
clock_of m = m.whole.clock

abbrev pub bound_of : {W : Type 0} → Peer W → ℕ
bound_of m = last_clock m.whole.runs

abbrev pub new_peer : {W : Type 0} → MirrorState W → Peer W
new_peer whole = record { queues = λ o. new_queue; known = λ j o. 0; heard = λ j. 0; whole = whole }

-- ---- commands as a mirror gets them

-- a command of which a mirror knows the slot, the number and the time
abbrev pub command : ℕ → ℕ → ℕ → Command
command time from number = record { time = time; number = number; from = from; player = 0; act = Go }

-- the commands of a slot, the first of this number
unfoldable pub numbered : ℕ → ℕ → List Sent → List Command
numbered o n [] = []
numbered o n (x ∷ xs) = command x.time o n ∷ numbered o (n + 1) xs

-- the commands of the first so many slots
unfoldable pub of_slots : ℕ → (ℕ → List Sent) → List Command
of_slots zero lists = []
of_slots (suc k) lists = of_slots k lists ++ numbered k 0 (lists k)

-- a mirror at which commands arrived, one after another
abbrev pub arrived : {W : Type 0} → List Command → MirrorState W → MirrorState W
arrived xs s = after s (map Arrive xs)

-- ---- what a peer does

-- a peer issues a command, at its clock or so many ticks later, and never before its last one
abbrev pub own_time : {W : Type 0} → ℕ → ℕ → Peer W → ℕ
own_time me ahead m =
    max (clock_of m + ahead) (last_time (m.queues me).gone (m.queues me).commands)

abbrev pub own : {W : Type 0} → ℕ → Sent → Peer W → Peer W
own me x m = record m {
  queues = put me (with_own x (m.queues me)) m.queues;
  whole = arrived (command x.time me (have_of (m.queues me)) ∷ []) m.whole;
}

-- an event of the mirror that is no arrival
abbrev pub moved : {W : Type 0} → Event → Peer W → Peer W
moved e m = record m { whole = after m.whole (e ∷ []) }

-- queues forget what the last copy passed so many ticks ago
abbrev pub forgot : {W : Type 0} → ℕ → Peer W → Peer W
forgot keep m = record m { queues = λ o. trimmed (bound_of m - keep) (m.queues o) }

-- which pieces are put into a packet: of a slot from a number on, so many
pub record Span : Type 0 where
  pub origin : ℕ
  pub first : ℕ
  pub count : ℕ

-- two slots differ
abbrev pub not_same : ℕ → ℕ → Bool
not_same a b = nat_lt a b || nat_lt b a

-- a span of what is remembered, of another slot than the hearer's
abbrev pub may_span : ℕ → ℕ → (ℕ → Queue) → Span → Bool
may_span slots to queues s =
    nat_lt s.origin slots
    && (not_same s.origin to
    && (nat_le (queues s.origin).kept s.first && nat_le s.first (have_of (queues s.origin))))

-- a packet with these pieces; the real packet is one of these, whatever is due and fits
abbrev pub packet_from : ℕ → ℕ → ℕ → List Span → (ℕ → Queue) → (ℕ → ℕ) → ℕ → Packet
packet_from slots me to spans queues heard clock = record {
  sender = me;
  to = to;
  clock = clock;
  echo = heard to;
  have = λ o. have_of (queues o);
  parts = map (λ s. part_of s.origin s.first s.count (queues s.origin)) (filter (may_span slots to queues) spans);
}

abbrev pub packet_of : {W : Type 0} → ℕ → ℕ → ℕ → List Span → Peer W → Packet
packet_of slots me to spans m = packet_from slots me to spans m.queues m.heard (clock_of m)

-- what the head of a packet tells
abbrev pub heard_head : {W : Type 0} → Packet → Peer W → Peer W
heard_head p m = record m {
  known = put p.sender (λ o. max (m.known p.sender o) (p.have o)) m.known;
  heard = put p.sender (max (m.heard p.sender) p.clock) m.heard;
}

-- a part is heard, and its slot's commands that are counted then arrive at the mirror, as they were issued
abbrev pub hears_part : {W : Type 0} → (ℕ → List Sent) → ℕ → Part → Peer W → Peer W
hears_part log most p m =
    let o = p.origin in
    let old = m.queues o in
    let new = heard_part (bound_of m) most p old in
    record m {
      queues = put o new m.queues;
      whole = arrived (numbered o (have_of old) (piece (have_of old) (have_of new - have_of old) (log o))) m.whole;
    }

-- parts are heard, each stopped after so many commands, by its place
unfoldable pub hears_parts : {W : Type 0} → (ℕ → List Sent) → (ℕ → ℕ) → List Part → Peer W → Peer W
hears_parts log most [] m = m
hears_parts log most (p ∷ ps) m =
    hears_parts log (λ place. most (suc place)) ps (hears_part log (most 0) p m)

-- why a peer refuses a packet that is for it: it claims more than was issued here, or a clock that wasn't yet,
-- or one of its parts conflicts
abbrev pub is_ahead : ℕ → Packet → (ℕ → Queue) → ℕ → Bool
is_ahead me p queues clock = nat_lt (have_of (queues me)) (p.have me) || nat_lt clock p.echo

abbrev pub refuses : ℕ → Packet → (ℕ → Queue) → ℕ → Bool
refuses me p queues clock =
    is_ahead me p queues clock || list_any (λ part. conflicts part (queues part.origin)) p.parts

abbrev pub is_refused : {W : Type 0} → ℕ → Packet → Peer W → Bool
is_refused me p m = refuses me p m.queues (clock_of m)

-- a packet is heard
abbrev pub hears : {W : Type 0} → (ℕ → List Sent) → (ℕ → ℕ) → ℕ → Packet → Peer W → Peer W
hears log most me p m =
    if is_refused me p m then m else hears_parts log most p.parts (heard_head p m)

-- ---- what is always true of a peer

-- what the peer counted of a slot
abbrev pub counted_of : {W : Type 0} → (ℕ → List Sent) → Peer W → ℕ → List Sent
counted_of log m o = take (have_of (m.queues o)) (log o)

-- what was turned away had this slot and number
abbrev pub is_turned : ℕ → ℕ → Turned → Bool
is_turned o n a = (o == a.from) && (n == a.number)

-- a mirror tells of a command that it turned it away
pub record IsAway (x : Command) (a : Turned) : Type 0 where
  pub from : a.from ≡ x.from
  pub number : a.number ≡ x.number
  pub passed : x.time < a.bound

-- each of these commands arrived once at a mirror, and was accepted or turned away once: turned away where its last
-- copy had passed it
pub record IsCounted {W : Type 0} (slots : ℕ) (received : ℕ → List Sent) (lates : ℕ → ℕ) (s : MirrorState W) :
    Type 0 where
  pub away : List Command
  pub once : (test : Command → Bool)
      → times test s.accepted + times test away ≡ times test (of_slots slots received)
  pub told : AllZip IsAway away s.turned
  pub passed : AllByRecursion (λ x. x.time < last_clock s.runs) away
  pub late : (o : ℕ) → lates o ≡ times (λ x. x.from == o) away

-- what holds of the mirror by itself, whatever its length and room
pub record IsSound {W : Type 0} (s : MirrorState W) : Type 0 where
  pub trailing : IsTrailing s.accepted s.runs
  pub names : NamesDiffer s.accepted
  pub behind : AllByRecursion (λ run. beats run ≤ s.clock) s.runs

-- a peer of a session in which this was issued
pub record IsPeer {W : Type 0} (slots : ℕ) (log : ℕ → List Sent) (m : Peer W) : Type 0 where
  pub fronts : (o : ℕ) → IsFront (log o) (m.queues o)
  pub passed : (o : ℕ) → 0 < (m.queues o).kept → (m.queues o).gone < bound_of m
  pub sound : IsSound m.whole
  pub counted : IsCounted slots (counted_of log m) (λ o. (m.queues o).late) m.whole
