-- No command that is remembered has more bytes than the session allows.
use Rattle.std.proofs.Common.{◌≡◌, ℕ, zero, suc, ◌+◌, ◌-◌, ◌≤◌, Bool, true, false, cond, nat_le, nat_lt, ◌==◌, List, [], ◌∷◌, map, drop, length, sym, subst}
use Rattle.std.specs.List.{AllByRecursion}
use Rattle.std.proofs.lemmas.Bool.{and_parts, leb-true}
use Rattle.game_trait.proofs.Lists.{all-push}
use Rattle.rolling_mirror.specs.Rolling.{RollState, last_tick, said_to_arrival, arrived}
use Rattle.peer_model.specs.Queue.{Sent, Queue, Part, front_before, joined, have_of, is_behind, skipped, with_own}
use Rattle.peer_model.specs.Peer.{put}
use Rattle.peer_window.specs.Window.{Heard, RollPeer, counts, counts_each, next_command, rolls_part, rolls_parts, with_heard}
use Rattle.peer_packet.specs.declared.part.PartHead.{PartHead}
use Rattle.peer_packet.specs.declared.terms.Terms.{Terms}
use Rattle.peer_packet.specs.Packet as wire
use Rattle.peer_calls.specs.Wire.{part_from, sent_from}
use Rattle.peer_slots.specs.Queues.{QueueState, all_trimmed, new_queues, window_at, with_queue}
use Rattle.peer_sending.specs.Sending.{AreShort}

abbrev pub Short : ℕ → List Sent → Type 0
Short payload xs = AllByRecursion (λ (x : Sent). length x.bytes ≤ payload) xs

short-drop : (payload n : ℕ) (xs : List Sent) → Short payload xs → Short payload (drop n xs)
short-drop payload zero xs h = h
short-drop payload (suc n) [] h = tt
short-drop payload (suc n) (x ∷ xs) h = short-drop payload n xs h.1

short-if : (payload : ℕ) (b : Bool) (p q : Queue) → Short payload p.commands → Short payload q.commands → Short payload (cond b p q).commands
short-if payload true p q h k = h
short-if payload false p q h k = k

short-put : (payload o : ℕ) (q : Queue) (queues : ℕ → Queue) → Short payload q.commands → ((p : ℕ) → Short payload (queues p).commands) → (p : ℕ) → Short payload (put o q queues p).commands
short-put payload o q queues here rest p = short-if payload (p == o) q (queues p) here (rest p)

-- ---- what changes queues

pub none-short : (payload slots room : ℕ) (s : QueueState) → s ≡ new_queues slots room → AreShort payload s
none-short payload slots room s is o = subst (λ (q : QueueState). Short payload (q.queues o).commands) (sym is) tt

pub trimmed-short : (payload bound : ℕ) (old new : QueueState) → new ≡ all_trimmed bound old → AreShort payload old → AreShort payload new
trimmed-short payload bound old new is h o =
    subst (λ (q : QueueState). Short payload (q.queues o).commands) (sym is) (short-drop payload (front_before bound (old.queues o).commands) (old.queues o).commands (h o))

pub own-short : (payload me : ℕ) (x : Sent) (old new : QueueState) → new ≡ with_queue me (with_own x (old.queues me)) old → length x.bytes ≤ payload → AreShort payload old → AreShort payload new
own-short payload me x old new is short h o =
    subst (λ (q : QueueState). Short payload (q.queues o).commands) (sym is)
    (short-put payload me (with_own x (old.queues me)) old.queues (all-push (λ (y : Sent). length y.bytes ≤ payload) (old.queues me).commands x (h me) short) h o)

-- ---- parts

heard-if : {W : Type 0} (payload : ℕ) (b : Bool) (x y : Heard W) → Short payload x.queue.commands → Short payload y.queue.commands → Short payload (cond b x y).queue.commands
heard-if payload true x y h k = h
heard-if payload false x y h k = k

each-short : {W : Type 0} (payload room o : ℕ) (xs : List Sent) (q : Queue) (r : RollState W) → Short payload xs → Short payload q.commands → Short payload (counts_each room o xs q r).queue.commands
unfolding counts_each
each-short payload room o [] q r new old = old
each-short payload room o (x ∷ xs) q r new old =
    let next = arrived r (next_command o x q) (said_to_arrival r (next_command o x q)) in
    heard-if payload (counts room o x q r) (counts_each room o xs (joined (last_tick r) (x ∷ []) q) next) (record { queue = q; roll = r })
    (each-short payload room o xs (joined (last_tick r) (x ∷ []) q) next new.1 (all-push (λ (y : Sent). length y.bytes ≤ payload) q.commands x old new.0)) old

part-short : {W : Type 0} (payload room : ℕ) (p : Part) (q : Queue) (r : RollState W) → Short payload p.commands → Short payload q.commands → Short payload (rolls_part room p q r).queue.commands
part-short {W} payload room p q r new old =
    let o = p.origin in
    let ahead = drop (have_of (skipped p q) - p.first) p.commands in
    let here = drop (have_of q - p.first) p.commands in
    let skip = counts_each room o ahead (skipped p q) r in
    let same : Heard W = record { queue = q; roll = r } in
    let next = counts_each room o here q r in
    heard-if payload (is_behind p q) (cond (nat_lt p.before (last_tick r)) skip same) next
    (heard-if payload (nat_lt p.before (last_tick r)) skip same (each-short payload room o ahead (skipped p q) r (short-drop payload (have_of (skipped p q) - p.first) p.commands new) tt) old)
    (each-short payload room o here q r (short-drop payload (have_of q - p.first) p.commands new) old)

parts-short : {W : Type 0} (payload room : ℕ) (ps : List Part) (v : RollPeer W) → AllByRecursion (λ (p : Part). Short payload p.commands) ps → ((o : ℕ) → Short payload (v.queues o).commands)
    → (o : ℕ) → Short payload ((rolls_parts room ps v).queues o).commands
unfolding rolls_parts
parts-short payload room [] v new old = old
parts-short payload room (p ∷ ps) v new old =
    let h = rolls_part room p (v.queues p.origin) v.roll in
    parts-short payload room ps (with_heard p.origin h v) new.1
    (short-put payload p.origin h.queue v.queues (part-short payload room p (v.queues p.origin) v.roll new.0 (old p.origin)) old)

-- ---- what is read of a packet

sents-short : (payload before : ℕ) (cs : List wire.Sent) → wire.AreSent payload before cs → Short payload (map sent_from cs)
sents-short payload before [] h = tt
sents-short payload before (c ∷ cs) h =
    (leb-true (length c.payload) payload (and_parts (nat_le before c.time) (nat_le (length c.payload) payload) h.0.follows).1, sents-short payload c.time cs h.1)

read-short : (test : ℕ → PartHead → Bool) (payload least : ℕ) (ps : List wire.Part) → wire.AreParts test payload least ps → AllByRecursion (λ (p : Part). Short payload p.commands) (map part_from ps)
read-short test payload least [] h = tt
read-short test payload least (p ∷ ps) h = (sents-short payload p.before p.commands h.0.commands, read-short test payload (p.origin + 1) ps h.1)

pub heard-short :
    {W : Type 0} (terms : Terms) (p : wire.Packet) (ps : List wire.Part) (room : ℕ) (old new : QueueState) (before after : RollState W)
    → wire.IsPacket terms p → ps ≡ p.parts
    → window_at new.queues (λ j o. 0) (λ j. 0) after ≡ rolls_parts room (map part_from ps) (window_at old.queues (λ j o. 0) (λ j. 0) before)
    → AreShort terms.payload old → AreShort terms.payload new
heard-short {W} terms p ps room old new before after is same heard h o =
    let read = read-short (wire.is_part terms.slots p.to p.have) terms.payload 0 p.parts is.parts in
    subst (λ (v : RollPeer W). Short terms.payload (v.queues o).commands) (sym heard)
    (parts-short terms.payload room (map part_from ps) (window_at old.queues (λ j o. 0) (λ j. 0) before)
    (subst (λ (l : List wire.Part). AllByRecursion (λ (x : Part). Short terms.payload x.commands) (map part_from l)) (sym same) read) h o)
