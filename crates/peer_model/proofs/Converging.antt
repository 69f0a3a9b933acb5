-- Peers that have the same stand at one run.
use Rattle.std.proofs.Common.{◌≡◌, ℕ, zero, suc, ◌+◌, ◌-◌, ◌≤◌, ◌<◌, Bool, true, false, cond, ◌==◌, ◌&&◌, List, [], ◌∷◌, ◌++◌, filter, length, drop, refl, ap, sym, ◌∙◌, arith}
use Rattle.std.specs.List.{AllByRecursion}
use Rattle.std.proofs.Math.ListN.{take-append-drop}
use Rattle.std.proofs.lemmas.Bool.{and_right}
use Rattle.std.proofs.lemmas.Bool.Decides.{nat_tests}
use Rattle.game_trait.specs.declared.command.Command.{Command}
use Rattle.game_trait.specs.Count.{times}
use Rattle.game_trait.specs.Keys.{same_name, NamesDiffer}
use Rattle.game_trait.specs.Ordered.{due_at, ticks, ordered}
use Rattle.game_trait.proofs.Counts.{times-append, times-in_key_order, times-filter}
use Rattle.game_trait.proofs.KeyOrder.{KeysRise-in_key_order, NamesDiffer-filter, rising-unique}
use Rattle.game_trait.proofs.Lists.{all-append, all-weaker}
use Rattle.sync_model.specs.Lists.{last_of}
use Rattle.sync_model.specs.State.{MirrorState}
use Rattle.peer_model.specs.Queue.{Sent, have_of}
use Rattle.peer_model.specs.Peer.{Peer, command, numbered, of_slots, counted_of, IsCounted, IsPeer}
use Rattle.peer_model.specs.Net.{HasAllBefore}
use Rattle.peer_model.proofs.Counting.{numbered-append}

-- ---- names of slots

numbered-all : (P : Command → Type 0) (o n : ℕ) (xs : List Sent) → ((t k : ℕ) → n ≤ k → P (command t o k)) → AllByRecursion P (numbered o n xs)
unfolding numbered
numbered-all P o n [] all = tt
numbered-all P o n (x ∷ xs) all = (all x.time n (omega arith), numbered-all P o (n + 1) xs (λ t k up. all t k (omega arith)))

numbers-differ : (t u o n k : ℕ) → n < k → same_name (command t o n) (command u o k) ≡ false
unfolding same_name
numbers-differ t u o n k apart = grind (arith, nat_tests)

slot-differs : (x : Command) (k t j : ℕ) → x.from < k → same_name x (command t k j) ≡ false
unfolding same_name
slot-differs x k t j below = grind (arith, nat_tests)

numbered-differ : (o n : ℕ) (xs : List Sent) → NamesDiffer (numbered o n xs)
unfolding numbered NamesDiffer
numbered-differ o n [] = tt
numbered-differ o n (x ∷ xs) = (numbered-all (λ y. same_name (command x.time o n) y ≡ false) o (n + 1) xs (λ t k up. numbers-differ x.time t o n k (omega arith)), numbered-differ o (n + 1) xs)

slots-below : (k : ℕ) (f : ℕ → List Sent) → AllByRecursion (λ x. x.from < k) (of_slots k f)
unfolding of_slots
slots-below zero f = tt
slots-below (suc k) f =
    all-append (λ x. x.from < suc k) (of_slots k f) (numbered k 0 (f k))
    (all-weaker (λ x. x.from < k) (λ x. x.from < suc k) (of_slots k f) (λ x h. omega arith) (slots-below k f))
    (numbered-all (λ x. x.from < suc k) k 0 (f k) (λ t j up. omega arith))

differ-append :
    (xs ys : List Command) → NamesDiffer xs → NamesDiffer ys → AllByRecursion (λ x. AllByRecursion (λ y. same_name x y ≡ false) ys) xs
    → NamesDiffer (xs ++ ys)
unfolding NamesDiffer
differ-append [] ys left right apart = right
differ-append (x ∷ xs) ys left right apart = (all-append (λ y. same_name x y ≡ false) xs ys left.0 apart.0, differ-append xs ys left.1 right apart.1)

pub slots-differ : (k : ℕ) (f : ℕ → List Sent) → NamesDiffer (of_slots k f)
unfolding of_slots NamesDiffer
slots-differ zero f = tt
slots-differ (suc k) f =
    differ-append (of_slots k f) (numbered k 0 (f k)) (slots-differ k f) (numbered-differ k 0 (f k))
    (all-weaker (λ x. x.from < k) (λ x. AllByRecursion (λ y. same_name x y ≡ false) (numbered k 0 (f k))) (of_slots k f)
    (λ x h. numbered-all (λ y. same_name x y ≡ false) k 0 (f k) (λ t j up. slot-differs x k t j h)) (slots-below k f))

-- ---- what isn't due yet

-- what is due at a tick, of commands that are due later
numbered-later : (p : Command → Bool) (t o n : ℕ) (xs : List Sent) → AllByRecursion (λ x. t < x.time) xs → times (λ x. p x && (x.time == t)) (numbered o n xs) ≡ 0
unfolding numbered times
numbered-later p t o n [] h = refl
numbered-later p t o n (x ∷ xs) h =
    let here : (p (command x.time o n) && (x.time == t)) ≡ false = and_right (p (command x.time o n)) (x.time == t) (let up = h.0 in grind (arith, nat_tests)) in
    let more = numbered-later p t o (n + 1) xs h.1 in
    rw here (omega arith)

-- so fronts have all of it, where what is behind them is due later
slots-front :
    (p : Command → Bool) (t k : ℕ) (f g rest : ℕ → List Sent) → ((o : ℕ) → g o ≡ f o ++ rest o) → ((o : ℕ) → AllByRecursion (λ x. t < x.time) (rest o))
    → times (λ x. p x && (x.time == t)) (of_slots k g) ≡ times (λ x. p x && (x.time == t)) (of_slots k f)
unfolding of_slots
slots-front p t zero f g rest split later = refl
slots-front p t (suc k) f g rest split later =
    let test = λ (x : Command). p x && (x.time == t) in
    let before = slots-front p t k f g rest split later in
    let left = times-append test (of_slots k f) (numbered k 0 (f k)) in
    let right = times-append test (of_slots k g) (numbered k 0 (g k)) in
    let here = ap (λ (l : List Sent). times test (numbered k 0 l)) (split k) ∙ ap (times test) (numbered-append k 0 (f k) (rest k))
    ∙ times-append test (numbered k 0 (f k)) (numbered k (0 + length (f k)) (rest k)) in
    let none = numbered-later p t k (0 + length (f k)) (rest k) (later k) in
    omega arith

-- ---- ticks of lists that count alike before a tick

due_at-alike :
    (some other : List Command) (t : ℕ) → NamesDiffer some → NamesDiffer other
    → ((p : Command → Bool) → times (λ x. p x && (x.time == t)) some ≡ times (λ x. p x && (x.time == t)) other)
    → due_at some t ≡ due_at other t
due_at-alike some other t left right same =
    rising-unique (due_at some t) (due_at other t)
    (KeysRise-in_key_order (filter (λ x. x.time == t) some) (NamesDiffer-filter (λ x. x.time == t) some left))
    (KeysRise-in_key_order (filter (λ x. x.time == t) other) (NamesDiffer-filter (λ x. x.time == t) other right))
    (λ p. times-in_key_order p (filter (λ x. x.time == t) some) ∙ times-filter p (λ x. x.time == t) some ∙ same p
    ∙ sym (times-filter p (λ x. x.time == t) other) ∙ sym (times-in_key_order p (filter (λ x. x.time == t) other)))

pub ticks-alike :
    (some other : List Command) (t n : ℕ) → NamesDiffer some → NamesDiffer other
    → ((j : ℕ) → j < t + n → (p : Command → Bool) → times (λ x. p x && (x.time == j)) some ≡ times (λ x. p x && (x.time == j)) other)
    → ticks some t n ≡ ticks other t n
unfolding ticks
ticks-alike some other t zero left right same = refl
ticks-alike some other t (suc n) left right same =
    let here = due_at-alike some other t left right (same t (omega arith)) in
    let more = ticks-alike some other (t + 1) n left right (λ j below. same j (omega arith)) in
    rw (here, more) refl

-- ---- convergence

times-empty : {X : Type 0} (p : X → Bool) → times p [] ≡ 0
unfolding times
times-empty p = refl

-- commands of no slot are none
nothing : (xs : List Command) → ((o : ℕ) → times (λ x. x.from == o) xs ≡ 0) → xs ≡ []
unfolding times
nothing [] none = refl
nothing (x ∷ xs) none =
    absurd (let here : (x.from == x.from) ≡ true = grind (arith, nat_tests) in
    let some : cond {A = ℕ} (x.from == x.from) 1 0 + times (λ (y : Command). y.from == x.from) xs ≡ 0 = none x.from in
    let one : 1 + times (λ (y : Command). y.from == x.from) xs ≡ 0 = rw here at some in
    omega arith)

-- a mirror that turned none away
none-away : {W : Type 0} (slots : ℕ) (f : ℕ → List Sent) (late : ℕ → ℕ) (s : MirrorState W) → (h : IsCounted slots f late s) → ((o : ℕ) → late o ≡ 0) → h.away ≡ []
none-away slots f late s h none = nothing h.away (λ o. sym (h.late o) ∙ none o)

-- where a peer has all that is due before its last copy's clock, and turned none of it away, its last copy's run is
-- the time-ordered execution of what is issued
pub ends-in-order :
    {W : Type 0} (slots t : ℕ) (log : ℕ → List Sent) (m : Peer W) → IsPeer slots log m → HasAllBefore t log m
    → last_of [] m.whole.runs ≡ ordered (of_slots slots log) 0 t
ends-in-order {W} slots t log m h a =
    let s = m.whole in
    let c = h.counted in
    let none = none-away slots (counted_of log m) (λ o. (m.queues o).late) s c a.none_late in
    let count : (j : ℕ) → j < t → (p : Command → Bool) → times (λ x. p x && (x.time == j)) s.accepted ≡ times (λ x. p x && (x.time == j)) (of_slots slots log) =
    λ j below p. (let test = λ (x : Command). p x && (x.time == j) in
    let once = c.once test in
    let empty : times test c.away ≡ 0 = ap (times test) none ∙ times-empty test in
    let all = slots-front p j slots (counted_of log m) log (λ o. drop (have_of (m.queues o)) (log o)) (λ o. sym (take-append-drop (have_of (m.queues o)) (log o)))
    (λ o. all-weaker (λ x. t ≤ x.time) (λ x. j < x.time) (drop (have_of (m.queues o)) (log o)) (λ x k. omega arith) (a.all o)) in
    omega arith) in
    h.sound.trailing.last_ordered ∙ ap (ordered s.accepted 0) a.stands
    ∙ ticks-alike s.accepted (of_slots slots log) 0 (t - 0) h.sound.names (slots-differ slots log) (λ j below. count j (omega arith))
