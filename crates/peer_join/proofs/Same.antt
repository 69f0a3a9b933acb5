-- What a joiner's mirror accepted is what the maker's had.
use Rattle.std.proofs.Common.{◌≡◌, ℕ, zero, suc, ◌+◌, ◌≤◌, ◌<◌, Bool, true, false, cond, not, nat_le, nat_lt, ◌&&◌, List, [], ◌∷◌, ◌++◌, filter, length, take, drop, refl, ap, sym, ◌∙◌, subst, arith}
use Rattle.std.proofs.lemmas.Bool.Decides.{nat_tests}
use Rattle.std.proofs.lemmas.List.{length-take-le}
use Rattle.std.specs.List.{AllByRecursion}
use Rattle.game_trait.specs.declared.command.Command.{Command}
use Rattle.game_trait.specs.Count.{times}
use Rattle.game_trait.proofs.Counts.{times-append}
use Rattle.peer_model.specs.Queue.{Sent, Queue, have_of, last_time, piece, time_before, front_before, trimmed, TimesRise, IsFront}
use Rattle.peer_model.specs.Peer.{Peer, numbered, of_slots, bound_of, counted_of, IsPeer}
use Rattle.peer_model.proofs.Pieces.{rise-last, rise-take, piece-join, piece-rises, trimmed-front, trimmed-have, trimmed-passed}
use Rattle.peer_model.proofs.Counting.{numbered-append}
use Rattle.peer_calls.specs.Handing.{arriving}
use Rattle.peer_join.specs.Join.{AreSame, accepted_by}

-- ---- commands before a tick, and from it on

split-one : (t l : Bool) (a c n : ℕ) → a + c ≡ n → (cond l (cond t 1 0) 0 + a) + (cond (t && not l) 1 0 + c) ≡ cond t 1 0 + n
split-one true true a c n sum = omega arith
split-one true false a c n sum = omega arith
split-one false true a c n sum = omega arith
split-one false false a c n sum = omega arith

times-kept : (test : Command → Bool) (l : Bool) (x : Command) (xs : List Command) → times test (cond l (x ∷ xs) xs) ≡ cond l (cond (test x) 1 0) 0 + times test xs
unfolding times
times-kept test true x xs = omega arith
times-kept test false x xs = omega arith

split-times :
    (test : Command → Bool) (b : ℕ) (xs : List Command)
    → times test (filter (λ x. nat_lt x.time b) xs) + times (λ x. test x && nat_le b x.time) xs ≡ times test xs
unfolding times
split-times test b [] = refl
split-times test b (x ∷ xs) =
    let rest = split-times test b xs in
    let other : nat_le b x.time ≡ not (nat_lt x.time b) = grind (arith, nat_tests) in
    let kept = times-kept test (nat_lt x.time b) x (filter (λ y. nat_lt y.time b) xs) in
    ap (λ (k : ℕ). k + (cond (test x && nat_le b x.time) 1 0 + times (λ y. test y && nat_le b y.time) xs)) kept
    ∙ ap (λ (v : Bool). (cond (nat_lt x.time b) (cond (test x) 1 0) 0 + times test (filter (λ y. nat_lt y.time b) xs)) + (cond (test x && v) 1 0 + times (λ y. test y && nat_le b y.time) xs)) other
    ∙ split-one (test x) (nat_lt x.time b) (times test (filter (λ y. nat_lt y.time b) xs)) (times (λ y. test y && nat_le b y.time) xs) (times test xs) rest

and-false : (t : Bool) → (t && false) ≡ false
and-false true = refl
and-false false = refl

pub and-true : (t : Bool) → (t && true) ≡ t
and-true true = refl
and-true false = refl

none-from : (test : Command → Bool) (b : ℕ) (xs : List Command) → AllByRecursion (λ x. x.time < b) xs → times (λ x. test x && nat_le b x.time) xs ≡ 0
unfolding times
none-from test b [] below = refl
none-from test b (x ∷ xs) below =
    let here = below.0 in
    let late : nat_le b x.time ≡ false = grind (arith, nat_tests) in
    let none : (test x && nat_le b x.time) ≡ false = ap (λ (v : Bool). test x && v) late ∙ and-false (test x) in
    let rest = none-from test b xs below.1 in
    rw none (omega arith)

all-from : (test : Command → Bool) (b : ℕ) (xs : List Command) → AllByRecursion (λ x. b ≤ x.time) xs → times test xs ≡ times (λ x. test x && nat_le b x.time) xs
unfolding times
all-from test b [] due = refl
all-from test b (x ∷ xs) due =
    let here = due.0 in
    let on : nat_le b x.time ≡ true = grind (arith, nat_tests) in
    let same : (test x && nat_le b x.time) ≡ test x = ap (λ (v : Bool). test x && v) on ∙ and-true (test x) in
    let rest = all-from test b xs due.1 in
    rw same (omega arith)

-- ---- a slot's commands

below-last : (b t : ℕ) (xs : List Sent) → TimesRise t xs → last_time t xs < b → AllByRecursion (λ x. x.time < b) xs
unfolding TimesRise last_time
below-last b t [] rise last = tt
below-last b t (x ∷ xs) rise last = (let up = rise-last x.time xs rise.1 in omega arith, below-last b x.time xs rise.1 last)

from-on : (b t : ℕ) (xs : List Sent) → b ≤ t → TimesRise t xs → AllByRecursion (λ x. b ≤ x.time) xs
unfolding TimesRise
from-on b t [] on rise = tt
from-on b t (x ∷ xs) on rise = (let up = rise.0 in omega arith, from-on b x.time xs (let up = rise.0 in omega arith) rise.1)

front-case : (b : ℕ) (x : Sent) (xs : List Sent) (v : Bool) → nat_lt x.time b ≡ v → TimesRise x.time xs
    → AllByRecursion (λ y. b ≤ y.time) (drop (front_before b xs) xs)
    → AllByRecursion (λ y. b ≤ y.time) (drop (front_before b (x ∷ xs)) (x ∷ xs))
unfolding front_before
front-case b x xs true e rise rest = rw e rest
front-case b x xs false e rise rest =
    let on : b ≤ x.time = grind (arith, nat_tests) in
    rw e (on, from-on b x.time xs on rise)

behind-front : (b t : ℕ) (xs : List Sent) → TimesRise t xs → AllByRecursion (λ x. b ≤ x.time) (drop (front_before b xs) xs)
unfolding TimesRise front_before
behind-front b t [] rise = tt
behind-front b t (x ∷ xs) rise = front-case b x xs (nat_lt x.time b) refl rise.1 (behind-front b x.time xs rise.1)

-- what holds of times holds of them where they are numbered
pub numbered-all : (P : ℕ → Type 0) (o n : ℕ) (xs : List Sent) → AllByRecursion (λ x. P x.time) xs → AllByRecursion (λ x. P x.time) (numbered o n xs)
unfolding numbered
numbered-all P o n [] all = tt
numbered-all P o n (x ∷ xs) all = (all.0, numbered-all P o (n + 1) xs all.1)

-- what a trimmed queue has is due from the tick on
pub trimmed-due : (b : ℕ) (log : List Sent) (q : Queue) → TimesRise 0 log → IsFront log q → AllByRecursion (λ x. b ≤ x.time) (trimmed b q).commands
trimmed-due b log q rise front =
    behind-front b (time_before q.kept log) q.commands
    (subst (TimesRise (time_before q.kept log)) (sym front.commands) (piece-rises q.kept (length q.commands) log rise))

-- and what it forgot is not
forgot-below : (b k g : ℕ) (log : List Sent) → TimesRise 0 log → g ≡ time_before k log → (0 < k → g < b) → AllByRecursion (λ x. x.time < b) (take k log)
forgot-below b zero g log rise gone passed = tt
forgot-below b (suc k) g log rise gone passed =
    let last = passed (omega arith) in
    below-last b 0 (take (suc k) log) (rise-take (suc k) 0 log rise) (omega arith)

slot-same :
    (test : Command → Bool) (b o : ℕ) (log : List Sent) (q : Queue) → TimesRise 0 log → IsFront log q → (0 < q.kept → q.gone < b)
    → AllByRecursion (λ x. b ≤ x.time) q.commands
    → times test (numbered o q.kept q.commands) ≡ times (λ x. test x && nat_le b x.time) (numbered o 0 (take (have_of q) log))
slot-same test b o log q rise front passed due =
    let from = λ (x : Command). test x && nat_le b x.time in
    let within = front.within in
    let long : 0 + length (take q.kept log) ≡ q.kept = (let e = length-take-le q.kept log (omega arith) in omega arith) in
    let at : 0 + q.kept ≡ q.kept = omega arith in
    let parts : take (have_of q) log ≡ take q.kept log ++ q.commands =
    sym (piece-join 0 q.kept (length q.commands) log) ∙ ap (λ (l : List Sent). take q.kept log ++ l) (ap (λ (k : ℕ). piece k (length q.commands) log) at ∙ sym front.commands) in
    let all : times from (numbered o 0 (take (have_of q) log)) ≡ times from (numbered o 0 (take q.kept log)) + times from (numbered o q.kept q.commands) =
    ap (λ (l : List Sent). times from (numbered o 0 l)) parts
    ∙ ap (times from) (numbered-append o 0 (take q.kept log) q.commands)
    ∙ times-append from (numbered o 0 (take q.kept log)) (numbered o (0 + length (take q.kept log)) q.commands)
    ∙ ap (λ (k : ℕ). times from (numbered o 0 (take q.kept log)) + times from (numbered o k q.commands)) long in
    let none = none-from test b (numbered o 0 (take q.kept log)) (numbered-all (λ t. t < b) o 0 (take q.kept log) (forgot-below b q.kept q.gone log rise front.gone passed)) in
    let some = all-from test b (numbered o q.kept q.commands) (numbered-all (λ t. b ≤ t) o q.kept q.commands due) in
    omega arith

-- ---- all slots

slots-same :
    (test : Command → Bool) (b : ℕ) (log : ℕ → List Sent) (queues : ℕ → Queue) → ((o : ℕ) → TimesRise 0 (log o)) → ((o : ℕ) → IsFront (log o) (queues o))
    → ((o : ℕ) → 0 < (queues o).kept → (queues o).gone < b) → ((o : ℕ) → AllByRecursion (λ x. b ≤ x.time) (queues o).commands)
    → (k : ℕ) → times test (arriving k queues) ≡ times (λ x. test x && nat_le b x.time) (of_slots k (λ o. take (have_of (queues o)) (log o)))
unfolding arriving of_slots times
slots-same test b log queues rise front passed due zero = refl
slots-same test b log queues rise front passed due (suc k) =
    let from = λ (x : Command). test x && nat_le b x.time in
    let taken = numbered k 0 (take (have_of (queues k)) (log k)) in
    let before = slots-same test b log queues rise front passed due k in
    let here = slot-same test b k (log k) (queues k) (rise k) (front k) (passed k) (due k) in
    let all = times-append test (arriving k queues) (numbered k (queues k).kept (queues k).commands) in
    let counted = times-append from (of_slots k (λ o. take (have_of (queues o)) (log o))) taken in
    omega arith

-- the queues are trimmed where the peer's last copy stands: what they have is due from there on, and what was turned
-- away isn't
pub accepted-same :
    {W : Type 0} (slots : ℕ) (log : ℕ → List Sent) (m : Peer W) → ((o : ℕ) → TimesRise 0 (log o)) → IsPeer slots log m
    → AreSame (accepted_by slots m) m.whole.accepted
accepted-same slots log m rise h test =
    let b = bound_of m in
    let q = λ (o : ℕ). trimmed b (m.queues o) in
    let from = λ (x : Command). test x && nat_le b x.time in
    let lists = λ (o : ℕ). take (have_of (q o)) (log o) in
    let before = filter (λ x. nat_lt x.time b) m.whole.accepted in
    let due = slots-same test b log q rise (λ o. trimmed-front b (log o) (m.queues o) (h.fronts o)) (λ o. trimmed-passed b b (m.queues o) (omega arith) (h.passed o))
    (λ o. trimmed-due b (log o) (m.queues o) (rise o) (h.fronts o)) slots in
    let told : times from (of_slots slots lists) ≡ times from (of_slots slots (counted_of log m)) =
    ap (λ (l : ℕ → List Sent). times from (of_slots slots l)) (λ i o. take (trimmed-have b (m.queues o) i) (log o)) in
    let once = h.counted.once from in
    let none = none-from test b h.counted.away h.counted.passed in
    let both = times-append test before (arriving slots q) in
    let split = split-times test b m.whole.accepted in
    omega arith
