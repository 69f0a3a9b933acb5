-- What a feeder sends is orderly, few, and stands in time: what a race needs of the links between its feeders.
use Rattle.std.proofs.Common.{◌≡◌, ℕ, zero, suc, ◌+◌, ◌<◌, ◌≤◌, Bool, true, false, cond, ◌&&◌, List, [], ◌∷◌, ◌++◌, map, filter, length, refl, ap, sym, ◌∙◌, subst, append_assoc, arith}
use Rattle.std.specs.Prelude.{◌==◌, nat_lt}
use Rattle.std.proofs.lemmas.Bool.Decides.{nat_tests}
use Rattle.std.specs.List.{AllByRecursion}
use Rattle.game_trait.specs.declared.command.Command.{Command}
use Rattle.game_trait.specs.Ordered.{due_at}
use Rattle.game_trait.specs.Count.{times}
use Rattle.game_trait.proofs.Counts.{times-append, times-in_key_order, times-filter, times-apart, times-all, times-most}
use Rattle.link_ring.specs.declared.receive.LinkReceive.{LinkReceive}
use Rattle.link_ring.specs.declared.send.LinkSend.{LinkSend}
use Rattle.link_ring.specs.Ends.{sent_of, received_of}
use Rattle.link_ring.specs.declared.message.Message.{Message}
use Rattle.link_ring.specs.declared.message.Message.TheVariants.{Cmd, Mark}
use Rattle.copy_workers.specs.Messages.{tick_messages, messages, commands_in, mark_after, last_mark, OrderlyAfter, IsOrderly}
use Rattle.copy_workers.proofs.MessageLists.{commands_in-append, commands_in-tick, mark_after-append, orderly-front, orderly-back}
use Rattle.copy_workers.proofs.Standings.{due-times}

-- orderly lists, one after the other
orderly-join : (length m : ℕ) (a b : List Message) → OrderlyAfter length m a → OrderlyAfter length (mark_after m a) b → OrderlyAfter length m (a ++ b)
unfolding OrderlyAfter mark_after
orderly-join length m [] b h k = k
orderly-join length m (Cmd x ∷ a) b h k = (h.0, h.1, orderly-join length m a b h.2 k)
orderly-join length m (Mark n ∷ a) b h k = (h.0, h.1, orderly-join length n a b h.2 k)

-- the messages of a tick are orderly
orderly-tick : (length t : ℕ) (xs : List Command) → t < length → AllByRecursion (λ x. x.time ≡ t) xs → OrderlyAfter length t (map Cmd xs ++ Mark (t + 1) ∷ [])
unfolding OrderlyAfter
orderly-tick length t [] below due = (omega arith, omega arith, tt)
orderly-tick length t (x ∷ xs) below due = (below, (let a = due.0 in omega arith), orderly-tick length t xs below due.1)

-- the mark above a tick
mark-tick : (m t : ℕ) (xs : List Command) → mark_after m (map Cmd xs ++ Mark (t + 1) ∷ []) ≡ t + 1
unfolding mark_after
mark-tick m t [] = refl
mark-tick m t (x ∷ xs) = mark-tick m t xs

-- the last mark is how far the plan is sent
pub mark_after-messages : (plan : List Command) (n : ℕ) → last_mark (messages plan n) ≡ n
unfolding messages mark_after
mark_after-messages plan zero = refl
mark_after-messages plan (suc n) = mark_after-append 0 (messages plan n) (tick_messages plan n) ∙ mark-tick (mark_after 0 (messages plan n)) n (due_at plan n) ∙ omega arith

-- what is sent is orderly
pub orderly-messages : (length : ℕ) (plan : List Command) (n : ℕ) → n ≤ length → IsOrderly length (messages plan n)
unfolding messages OrderlyAfter
orderly-messages length plan zero most = tt
orderly-messages length plan (suc n) most =
    orderly-join length 0 (messages plan n) (tick_messages plan n) (orderly-messages length plan n (omega arith))
    (subst (λ (m : ℕ). OrderlyAfter length m (tick_messages plan n)) (sym (mark_after-messages plan n)) (orderly-tick length n (due_at plan n) (omega arith) (due-times plan n)))

-- and so is what was received of it
pub orderly-received : (length : ℕ) (plan : List Command) (n : ℕ) (got rest : List Message) → n ≤ length → messages plan n ≡ got ++ rest → IsOrderly length got
orderly-received length plan n got rest most parts = orderly-front length 0 got rest (subst (IsOrderly length) parts (orderly-messages length plan n most))

-- below the next tick, or at this one
split-below : (p : Command → Bool) (n : ℕ) (x : Command) →
    cond {A = ℕ} (p x && nat_lt x.time (suc n)) 1 0 ≡ cond {A = ℕ} (p x && nat_lt x.time n) 1 0 + cond {A = ℕ} (p x && (x.time == n)) 1 0
split-below p n x = grind (arith, nat_tests)

-- nothing is due below tick 0
none-below : (p : Command → Bool) (xs : List Command) → times (λ x. p x && nat_lt x.time 0) xs ≡ 0
unfolding times
none-below p [] = refl
none-below p (x ∷ xs) = (let e : (p x && nat_lt x.time 0) ≡ false = grind (arith, nat_tests) in rw e (omega (arith, none-below p xs)))

-- how often commands are sent
pub times-messages : (p : Command → Bool) (plan : List Command) (n : ℕ) → times p (commands_in (messages plan n)) ≡ times (λ x. p x && nat_lt x.time n) plan
unfolding messages commands_in times
times-messages p plan zero = sym (none-below p plan)
times-messages p plan (suc n) =
    ap (times p) (commands_in-tick (messages plan n) plan n) ∙ times-append p (commands_in (messages plan n)) (due_at plan n)
    ∙ (let a = times-messages p plan n in
    let b : times p (due_at plan n) ≡ times (λ x. p x && (x.time == n)) plan = times-in_key_order p (filter (λ x. x.time == n) plan) ∙ times-filter p (λ x. x.time == n) plan in
    let c = times-apart (λ x. p x && nat_lt x.time n) (λ x. p x && (x.time == n)) (λ x. p x && nat_lt x.time (suc n)) plan (split-below p n) in
    omega arith)

-- what was received and what is left are together what was issued
pub times-received : (p : Command → Bool) (plan : List Command) (n : ℕ) (got rest : List Message) → messages plan n ≡ got ++ rest
    → times p (commands_in got) + times p (commands_in rest) ≡ times (λ x. p x && nat_lt x.time n) plan
times-received p plan n got rest parts =
    sym (times-append p (commands_in got) (commands_in rest)) ∙ ap (times p) (sym (commands_in-append got rest))
    ∙ ap (λ (l : List Message). times p (commands_in l)) (sym parts) ∙ times-messages p plan n

-- no more is received than the plan has
pub few-received : (plan : List Command) (n : ℕ) (got rest : List Message) → messages plan n ≡ got ++ rest → length (commands_in got) ≤ length plan
few-received plan n got rest parts =
    (let a = times-received (λ x. true) plan n got rest parts in let b = times-all (commands_in got) in let c = times-most (λ x. true && nat_lt x.time n) plan in omega arith)

-- after mark m: the mark before each command is its time
unfoldable Timely : ℕ → List Message → Type 0
Timely m [] = Unit {0}
Timely m (Cmd x ∷ rest) = (m ≡ x.time) × Timely m rest
Timely m (Mark n ∷ rest) = Timely n rest

-- the mark before each command of two lists
timely-join : (m : ℕ) (a b : List Message) → Timely m a → Timely (mark_after m a) b → Timely m (a ++ b)
unfolding Timely mark_after
timely-join m [] b h k = k
timely-join m (Cmd x ∷ a) b h k = (h.0, timely-join m a b h.1 k)
timely-join m (Mark n ∷ a) b h k = timely-join n a b h k

-- in the messages of a tick
timely-tick : (t : ℕ) (xs : List Command) → AllByRecursion (λ x. x.time ≡ t) xs → Timely t (map Cmd xs ++ Mark (t + 1) ∷ [])
unfolding Timely
timely-tick t [] due = tt
timely-tick t (x ∷ xs) due = (sym due.0, timely-tick t xs due.1)

-- in all that is sent
timely-messages : (plan : List Command) (n : ℕ) → Timely 0 (messages plan n)
unfolding messages Timely
timely-messages plan zero = tt
timely-messages plan (suc n) =
    timely-join 0 (messages plan n) (tick_messages plan n) (timely-messages plan n)
    (subst (λ (m : ℕ). Timely m (tick_messages plan n)) (sym (mark_after-messages plan n)) (timely-tick n (due_at plan n) (due-times plan n)))

-- the mark before a command at a place
timely-places : (m : ℕ) (front back : List Message) (x : Command) → Timely m (front ++ Cmd x ∷ back) → mark_after m front ≡ x.time
unfolding Timely mark_after
timely-places m [] back x h = h.0
timely-places m (Cmd y ∷ front) back x h = timely-places m front back x h.1
timely-places m (Mark n ∷ front) back x h = timely-places n front back x h

-- the mark before a command that was sent is its time
pub mark-before : (plan : List Command) (n : ℕ) (front back : List Message) (x : Command) → messages plan n ≡ front ++ Cmd x ∷ back → last_mark front ≡ x.time
mark-before plan n front back x parts = timely-places 0 front back x (subst (Timely 0) parts (timely-messages plan n))

-- marks never fall
marks-rise : (length m : ℕ) (a : List Message) → OrderlyAfter length m a → m ≤ mark_after m a
unfolding OrderlyAfter mark_after
marks-rise length m [] h = omega arith
marks-rise length m (Cmd x ∷ a) h = marks-rise length m a h.2
marks-rise length m (Mark n ∷ a) h = omega (arith, h.0, marks-rise length n a h.2)

-- the last mark of a front is no higher
marks-front : (length : ℕ) (a b : List Message) → IsOrderly length (a ++ b) → last_mark a ≤ last_mark (a ++ b)
marks-front length a b h = (let e = mark_after-append 0 a b in let r = marks-rise length (mark_after 0 a) b (orderly-back length 0 a b h) in omega arith)

-- a command still on its way: the last mark received is at most its time
pub mark-waiting :
    (length : ℕ) (plan : List Command) (n : ℕ) (got front back : List Message) (x : Command) → n ≤ length → messages plan n ≡ got ++ (front ++ Cmd x ∷ back) → last_mark got ≤ x.time
mark-waiting length plan n got front back x most parts =
    let same = parts ∙ sym (append_assoc got front (Cmd x ∷ back)) in
    let there = mark-before plan n (got ++ front) back x same in
    let orderly = orderly-received length plan n (got ++ front) (Cmd x ∷ back) most same in
    (let a = marks-front length got front orderly in omega arith)

-- a command that was never issued: the same
pub mark-unissued :
    (length : ℕ) (plan : List Command) (n : ℕ) (got rest : List Message) (x : Command) → n ≤ length → messages plan n ≡ got ++ rest → n ≤ x.time → last_mark got ≤ x.time
mark-unissued length plan n got rest x most parts late =
    let orderly = subst (IsOrderly length) parts (orderly-messages length plan n most) in
    (let a = marks-front length got rest orderly in let b = ap (λ (l : List Message). last_mark l) parts in let c = mark_after-messages plan n in omega arith)

-- over a link that began empty: what was received, and what is left, is what the sender's plan gives
pub link-parts :
    (s t : LinkSend) (r q : LinkReceive) (plan : List Command) (marked : ℕ) (got left : List Message)
    → sent_of s ≡ [] → received_of r ≡ [] → sent_of t ≡ sent_of s ++ messages plan marked → received_of q ≡ received_of r ++ got
    → received_of q ++ left ≡ sent_of t → messages plan marked ≡ got ++ left
link-parts s t r q plan marked got left none nothing sent received whole =
    sym (sent ∙ ap (λ (l : List Message). l ++ messages plan marked) none) ∙ sym whole
    ∙ ap (λ (l : List Message). l ++ left) (received ∙ ap (λ (l : List Message). l ++ got) nothing)
