-- What taking in a packet leaves.
use Rattle.std.proofs.Common.{◌≡◌, ℕ, ◌-◌, Bool, true, false, cond, nat_lt, List, [], ◌∷◌, map, drop, refl, ap, ◌∙◌}
use Rattle.game_trait.specs.declared.command.Command.{Command}
use Rattle.rolling_mirror.specs.declared.arrival.Arrival.{Arrival}
use Rattle.rolling_mirror.specs.declared.arrival.Arrival.TheVariants.{Taken, Repeat, Late, Far, Full}
use Rattle.rolling_mirror.specs.Rolling.{RollState, last_tick, said_to_arrival, arrived}
use Rattle.peer_model.specs.Queue.{Sent, Queue, Part, joined, have_of, is_behind, skipped}
use Rattle.peer_window.specs.Window.{Heard, RollPeer, counts, counts_each, next_command, rolls_part, rolls_parts, with_heard}
use Rattle.peer_packet.specs.Packet as wire
use Rattle.peer_calls.specs.declared.config.Config.{Config}
use Rattle.peer_calls.specs.State.{State, clock_now, newest_clock, window_of}
use Rattle.peer_calls.specs.Wire.{part_from}
use Rattle.peer_calls.specs.Hearing.{hears_head, hears_packet}
use Rattle.peer_slots.specs.Links.{LinkState, links_in, links_heard}
use Rattle.peer_slots.specs.Queues.{window_at}

-- ---- the base stays

arrived-base : {W : Type 0} (r : RollState W) (x : Command) (a : Arrival) → (arrived r x a).base ≡ r.base
arrived-base r x (Taken repaired) = refl
arrived-base r x Repeat = refl
arrived-base r x (Late bound) = refl
arrived-base r x (Far end) = refl
arrived-base r x Full = refl

base-if : {W : Type 0} (b : Bool) (x y : Heard W) (n : ℕ) → x.roll.base ≡ n → y.roll.base ≡ n → (cond b x y).roll.base ≡ n
base-if true x y n h k = h
base-if false x y n h k = k

each-base : {W : Type 0} (room o : ℕ) (xs : List Sent) (q : Queue) (r : RollState W) → (counts_each room o xs q r).roll.base ≡ r.base
unfolding counts_each
each-base room o [] q r = refl
each-base room o (x ∷ xs) q r =
    let next = arrived r (next_command o x q) (said_to_arrival r (next_command o x q)) in
    base-if (counts room o x q r) (counts_each room o xs (joined (last_tick r) (x ∷ []) q) next) (record { queue = q; roll = r }) r.base
    (each-base room o xs (joined (last_tick r) (x ∷ []) q) next ∙ arrived-base r (next_command o x q) (said_to_arrival r (next_command o x q))) refl

part-base : {W : Type 0} (room : ℕ) (p : Part) (q : Queue) (r : RollState W) → (rolls_part room p q r).roll.base ≡ r.base
part-base {W} room p q r =
    let o = p.origin in
    let skip = counts_each room o (drop (have_of (skipped p q) - p.first) p.commands) (skipped p q) r in
    let same : Heard W = record { queue = q; roll = r } in
    let next = counts_each room o (drop (have_of q - p.first) p.commands) q r in
    base-if (is_behind p q) (cond (nat_lt p.before (last_tick r)) skip same) next r.base
    (base-if (nat_lt p.before (last_tick r)) skip same r.base (each-base room o (drop (have_of (skipped p q) - p.first) p.commands) (skipped p q) r) refl)
    (each-base room o (drop (have_of q - p.first) p.commands) q r)

pub parts-base : {W : Type 0} (room : ℕ) (ps : List Part) (v : RollPeer W) → (rolls_parts room ps v).roll.base ≡ v.roll.base
unfolding rolls_parts
parts-base room [] v = refl
parts-base room (p ∷ ps) v =
    parts-base room ps (with_heard p.origin (rolls_part room p (v.queues p.origin) v.roll) v) ∙ part-base room p (v.queues p.origin) v.roll

-- ---- the whole state

pub takes-in :
    {W : Type 0} (c : Config) (p : wire.Packet) (s : State W) (queues : ℕ → Queue) (l : LinkState) (roll : RollState W) (room clock slots : ℕ)
    → room ≡ c.room → clock ≡ clock_now s → l ≡ links_heard p clock (links_in slots s)
    → ((known : ℕ → ℕ → ℕ) (heard : ℕ → ℕ) → window_at queues known heard roll ≡ rolls_parts room (map part_from p.parts) (window_at s.queues known heard s.roll))
    → record s { queues = queues; known = l.known; newest = l.newest; cursor = l.cursor; marks = l.marks; roll = roll } ≡ hears_packet c p s
takes-in {W} c p s queues l roll room clock slots is_room is_clock links heard =
    let h = hears_head p s in
    let parts = map part_from p.parts in
    let told : l ≡ links_heard p (clock_now s) (links_in slots s) = links ∙ ap (λ (n : ℕ). links_heard p n (links_in slots s)) is_clock in
    let left : window_at queues h.known (λ j. newest_clock (h.newest j)) roll ≡ rolls_parts c.room parts (window_of h) =
    heard h.known (λ j. newest_clock (h.newest j)) ∙ ap (λ (n : ℕ). rolls_parts n parts (window_of h)) is_room in
    λ i. record {
      me = s.me;
      start = s.start;
      queues = (left i).queues;
      known = (told i).known;
      newest = (told i).newest;
      cursor = (told i).cursor;
      marks = (told i).marks;
      roll = (left i).roll;
    }
