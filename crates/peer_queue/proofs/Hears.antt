-- A part is heard, command by command.
use Rattle.std.proofs.Common.{◌≡◌, ℕ, suc, ◌+◌, ◌-◌, ◌≤◌, ◌<◌, Bool, true, false, cond, not, ◌==◌, ◌&&◌, nat_lt, List, [], ◌∷◌, map, length, drop, get_or, refl, ap, sym, subst, ◌∙◌, arith}
use Rattle.std.proofs.lemmas.Bool.{lt-ltb, le-ltb}
use Rattle.game_trait.specs.Run.{beats}
use Rattle.game_trait.specs.declared.command.Item.{Item}
use Rattle.sync_model.specs.Lists.{last_of}
use Rattle.sync_model.proofs.Lists.{last_of-at}
use Rattle.rolling_mirror.specs.declared.arrival.Arrival.{Arrival}
use Rattle.rolling_mirror.specs.declared.arrival.Arrival.TheVariants.{Taken, Repeat, Late, Far, Full}
use Rattle.rolling_mirror.specs.Rolling.{RollState, last_tick, said_to_arrival, arrived}
use Rattle.peer_model.specs.Queue.{Sent, Queue, have_of, last_time, skipped, joined}
use Rattle.peer_model.proofs.Pieces.{last-append}
use Rattle.peer_window.specs.Window.{Heard, next_command, counts, counts_each, rolls_part}
use Rattle.peer_packet.specs.Packet.{AreSent}
use Rattle.peer_packet.specs.Packet as wire
use Rattle.peer_calls.specs.Wire.{sent_from, part_from}
use Rattle.peer_calls.specs.declared.told.Told.{Told}
use Rattle.peer_calls.specs.Hearing.{with_answer, tells_each, tells_part}
use Rattle.peer_queue.proofs.Walks.{map-drop}

pub last-run : (runs : List (List Item)) → 0 < length runs → beats (get_or runs (length runs - 1) []) ≡ beats (last_of [] runs)
unfolding last_of
last-run [] some = absurd (omega arith)
last-run (r ∷ rs) some =
    let e : suc (length rs) - 1 ≡ length rs = omega arith in
    ap (λ (k : ℕ). beats (get_or (r ∷ rs) k [])) e ∙ ap beats (sym (last_of-at r [] rs))

-- ---- one command, counted or not

abbrev pub left_as : {W : Type 0} → Queue → RollState W → Heard W
left_as q r = record { queue = q; roll = r }

pub counts-on :
    {W : Type 0} (room o : ℕ) (x : Sent) (xs : List Sent) (q : Queue) (r : RollState W) → counts room o x q r ≡ true
    → counts_each room o (x ∷ xs) q r
    ≡ counts_each room o xs (joined (last_tick r) (x ∷ []) q) (arrived r (next_command o x q) (said_to_arrival r (next_command o x q)))
unfolding counts_each
counts-on {W} room o x xs q r is = rw is refl

pub counts-stops :
    {W : Type 0} (room o : ℕ) (x : Sent) (xs : List Sent) (q : Queue) (r : RollState W) → counts room o x q r ≡ false
    → counts_each room o (x ∷ xs) q r ≡ record { queue = q; roll = r }
unfolding counts_each
counts-stops {W} room o x xs q r is = rw is refl

choice-full : (full counted : Bool) → (not full && counted) ≡ true → full ≡ false
choice-full true counted is = absurd (let k : false ≡ true = is in cc)
choice-full false counted is = refl

pub counts-none : {W : Type 0} (room o : ℕ) (cs : List wire.Sent) (q : Queue) (r : RollState W) → cs ≡ [] → left_as q r ≡ counts_each room o (map sent_from cs) q r
unfolding counts_each
counts-none {W} room o cs q r none = rw none refl

pub tells-none : {W : Type 0} (room o : ℕ) (cs : List wire.Sent) (q : Queue) (r : RollState W) (t : Told) → cs ≡ [] → t ≡ tells_each room o (map sent_from cs) q r t
unfolding tells_each
tells-none {W} room o cs q r t none = rw none refl

-- what is told of one command
abbrev pub told_of_one : {W : Type 0} → ℕ → ℕ → Sent → Queue → RollState W → Told → Told
told_of_one room o x q r t =
    cond (length q.commands == room) (record t { full = true }) (with_answer (said_to_arrival r (next_command o x q)) t)

pub tells-on :
    {W : Type 0} (room o : ℕ) (x : Sent) (xs : List Sent) (q : Queue) (r : RollState W) (t : Told) → counts room o x q r ≡ true
    → tells_each room o (x ∷ xs) q r t
    ≡ tells_each room o xs (joined (last_tick r) (x ∷ []) q) (arrived r (next_command o x q) (said_to_arrival r (next_command o x q))) (told_of_one room o x q r t)
unfolding tells_each
tells-on {W} room o x xs q r t is =
    let not_full : (length q.commands == room) ≡ false = choice-full (length q.commands == room) _ is in
    rw is (rw not_full refl)

pub tells-stops :
    {W : Type 0} (room o : ℕ) (x : Sent) (xs : List Sent) (q : Queue) (r : RollState W) (t : Told) → counts room o x q r ≡ false
    → tells_each room o (x ∷ xs) q r t ≡ told_of_one room o x q r t
unfolding tells_each
tells-stops {W} room o x xs q r t is = rw is refl

answer-more : (a : Arrival) (t : Told) → ((with_answer a t).taken ≤ t.taken + 1) × ((with_answer a t).late ≤ t.late + 1)
answer-more (Taken repaired) t = (omega arith, omega arith)
answer-more Repeat t = (omega arith, omega arith)
answer-more (Late bound) t = (omega arith, omega arith)
answer-more (Far end) t = (omega arith, omega arith)
answer-more Full t = (omega arith, omega arith)

-- what is told grows by one command at most
pub one-more : {W : Type 0} (room o : ℕ) (x : Sent) (q : Queue) (r : RollState W) (t : Told)
    → ((told_of_one room o x q r t).taken ≤ t.taken + 1) × ((told_of_one room o x q r t).late ≤ t.late + 1)
one-more {W} room o x q r t =
    elim (length q.commands == room) as (λ v. ((cond v (record t { full = true }) (with_answer (said_to_arrival r (next_command o x q)) t)).taken ≤ t.taken + 1)
    × ((cond v (record t { full = true }) (with_answer (said_to_arrival r (next_command o x q)) t)).late ≤ t.late + 1)) [
      | true ↦ (omega arith, omega arith)
      | false ↦ answer-more (said_to_arrival r (next_command o x q)) t
    ]

-- what follows a command that was counted may follow it
pub sent-next : (g bound : ℕ) (q : Queue) (x : Sent) (cs : List wire.Sent) → AreSent 64 x.time cs → AreSent 64 (last_time q.gone (joined bound (x ∷ []) q).commands) cs
unfolding last_time
sent-next g bound q x cs h = subst (λ (t : ℕ). AreSent 64 t cs) (sym (last-append q.gone q.commands (x ∷ []))) h

-- ---- a part

none-skipped : (p : wire.Part) (q : Queue) → drop (have_of (skipped (part_from p) q) - p.first) (map sent_from p.commands) ≡ map sent_from p.commands
none-skipped p q = (let e : have_of (skipped (part_from p) q) - p.first ≡ 0 = omega arith in ap (λ (k : ℕ). drop k (map sent_from p.commands)) e)

pub rolls-gap : {W : Type 0} (room : ℕ) (p : wire.Part) (q : Queue) (r : RollState W) → have_of q < p.first → last_tick r ≤ p.before → rolls_part room (part_from p) q r ≡ left_as q r
rolls-gap {W} room p q r gap late =
    let a : nat_lt (have_of q) p.first ≡ true = lt-ltb (have_of q) p.first gap in
    let b : nat_lt p.before (last_tick r) ≡ false = le-ltb p.before (last_tick r) late in
    rw a (rw b refl)

pub rolls-skipped : {W : Type 0} (room : ℕ) (p : wire.Part) (q : Queue) (r : RollState W) → have_of q < p.first → p.before < last_tick r
    → rolls_part room (part_from p) q r ≡ counts_each room p.origin (map sent_from p.commands) (skipped (part_from p) q) r
rolls-skipped {W} room p q r gap late =
    let a : nat_lt (have_of q) p.first ≡ true = lt-ltb (have_of q) p.first gap in
    let b : nat_lt p.before (last_tick r) ≡ true = lt-ltb p.before (last_tick r) late in
    rw a (rw b (ap (λ (l : List Sent). counts_each room p.origin l (skipped (part_from p) q) r) (none-skipped p q)))

pub rolls-on : {W : Type 0} (room : ℕ) (p : wire.Part) (q : Queue) (r : RollState W) → p.first ≤ have_of q
    → rolls_part room (part_from p) q r ≡ counts_each room p.origin (map sent_from (drop (have_of q - p.first) p.commands)) q r
rolls-on {W} room p q r on =
    let a : nat_lt (have_of q) p.first ≡ false = le-ltb (have_of q) p.first on in
    rw a (ap (λ (l : List Sent). counts_each room p.origin l q r) (sym (map-drop (have_of q - p.first) p.commands)))

pub tells-gap : {W : Type 0} (room : ℕ) (p : wire.Part) (q : Queue) (r : RollState W) (t : Told) → have_of q < p.first → last_tick r ≤ p.before
    → tells_part room (part_from p) q r t ≡ record t { gap = true }
tells-gap {W} room p q r t gap late =
    let a : nat_lt (have_of q) p.first ≡ true = lt-ltb (have_of q) p.first gap in
    let b : nat_lt p.before (last_tick r) ≡ false = le-ltb p.before (last_tick r) late in
    rw a (rw b refl)

pub tells-skipped : {W : Type 0} (room : ℕ) (p : wire.Part) (q : Queue) (r : RollState W) (t : Told) → have_of q < p.first → p.before < last_tick r
    → tells_part room (part_from p) q r t
    ≡ tells_each room p.origin (map sent_from p.commands) (skipped (part_from p) q) r (record t { late = t.late + (p.first - have_of q) })
tells-skipped {W} room p q r t gap late =
    let a : nat_lt (have_of q) p.first ≡ true = lt-ltb (have_of q) p.first gap in
    let b : nat_lt p.before (last_tick r) ≡ true = lt-ltb p.before (last_tick r) late in
    rw a (rw b (ap (λ (l : List Sent). tells_each room p.origin l (skipped (part_from p) q) r (record t { late = t.late + (p.first - have_of q) })) (none-skipped p q)))

pub tells-front : {W : Type 0} (room : ℕ) (p : wire.Part) (q : Queue) (r : RollState W) (t : Told) → p.first ≤ have_of q
    → tells_part room (part_from p) q r t ≡ tells_each room p.origin (map sent_from (drop (have_of q - p.first) p.commands)) q r t
tells-front {W} room p q r t on =
    let a : nat_lt (have_of q) p.first ≡ false = le-ltb (have_of q) p.first on in
    rw a (ap (λ (l : List Sent). tells_each room p.origin l q r t) (sym (map-drop (have_of q - p.first) p.commands)))
