-- A joiner's queues are those of the snapshot's maker.
use Rattle.std.proofs.Common.{◌≡◌, ℕ, zero, suc, ◌+◌, ◌-◌, ◌≤◌, ◌<◌, Bool, true, false, cond, nat_lt, List, [], ◌∷◌, map, filter, drop, length, refl, ap, sym, ◌∙◌, arith}
use Rattle.std.specs.List.{range_with_len}
use Rattle.std.proofs.lemmas.List.{length-map}
use Rattle.std.proofs.lemmas.Bool.{ltb-true, ltb-false}
use Rattle.std.proofs.lemmas.Bool.Decides.{nat_tests}
use Rattle.peer_model.specs.Queue.{Sent, Queue, new_queue, have_of, last_time, front_before, trimmed}
use Rattle.peer_model.proofs.Pieces.{trimmed-have}
use Rattle.peer_packet.specs.Snapshot as snapshot
use Rattle.peer_calls.specs.Wire.{as_sent, sent_from}
use Rattle.peer_calls.specs.Handing.{queue_handed, queue_taken, first_taken, queues_taken}

-- bytes carry a command as it is
sent-back : (xs : List Sent) → map sent_from (map as_sent xs) ≡ xs
sent-back [] = refl
sent-back (x ∷ xs) = ap (λ (l : List Sent). x ∷ l) (sent-back xs)

queue-back : (q : Queue) (have : ℕ) → have ≡ have_of q → queue_taken have (queue_handed q) ≡ q
queue-back q have is =
    let few = length-map q.commands as_sent in
    let kept : have - length (map as_sent q.commands) ≡ q.kept = omega arith in
    λ i. record { kept = kept i; gone = q.gone; commands = sent-back q.commands i; late = q.late }

pub trimmed-new : (b : ℕ) → trimmed b new_queue ≡ new_queue
unfolding front_before last_time
trimmed-new b = refl

pub ltb-zero : (n : ℕ) → nat_lt 0 n ≡ false → n ≡ 0
ltb-zero n none = grind (arith, nat_tests)

-- of slots from a on
abbrev haves : ℕ → ℕ → (ℕ → Queue) → List ℕ
haves a n queues = map (λ o. have_of (queues o)) (range_with_len a n)

abbrev handed : ℕ → ℕ → ℕ → (ℕ → Queue) → List snapshot.Queue
handed b a n queues = map (λ o. queue_handed (trimmed b (queues o))) (filter (λ o. nat_lt 0 (have_of (queues o))) (range_with_len a n))

-- the first of them takes the first queue where it has issued
taken-first :
    (b a n : ℕ) (queues : ℕ → Queue) → ((o : ℕ) → have_of (queues o) ≡ 0 → queues o ≡ new_queue)
    → (v : Bool) → nat_lt 0 (have_of (queues a)) ≡ v
    → queues_taken (haves a (suc n) queues) (handed b a (suc n) queues) zero ≡ trimmed b (queues a)
unfolding queues_taken first_taken
taken-first b a n queues none true e = rw e (queue-back (trimmed b (queues a)) (have_of (queues a)) (sym (trimmed-have b (queues a))))
taken-first b a n queues none false e = rw e (sym (trimmed-new b) ∙ ap (trimmed b) (sym (none a (ltb-zero (have_of (queues a)) e))))

step-taken : (x : ℕ) (ns : List ℕ) (qs : List snapshot.Queue) (o : ℕ) (v : Bool) → nat_lt 0 x ≡ v → queues_taken (x ∷ ns) qs (suc o) ≡ queues_taken ns (cond v (drop 1 qs) qs) o
unfolding queues_taken
step-taken x ns qs o v e = ap (λ (b : Bool). queues_taken ns (cond b (drop 1 qs) qs) o) e

-- and those behind it the rest
taken-rest :
    (b a n : ℕ) (queues : ℕ → Queue) (o : ℕ) (v : Bool) → nat_lt 0 (have_of (queues a)) ≡ v
    → queues_taken (haves a (suc n) queues) (handed b a (suc n) queues) (suc o) ≡ queues_taken (haves (a + 1) n queues) (handed b (a + 1) n queues) o
taken-rest b a n queues o true e = step-taken (have_of (queues a)) (haves (a + 1) n queues) (handed b a (suc n) queues) o true e ∙ rw e refl
taken-rest b a n queues o false e = step-taken (have_of (queues a)) (haves (a + 1) n queues) (handed b a (suc n) queues) o false e ∙ rw e refl

taken-handed :
    (b a n : ℕ) (queues : ℕ → Queue) → ((o : ℕ) → have_of (queues o) ≡ 0 → queues o ≡ new_queue)
    → (o : ℕ) → o < n → queues_taken (haves a n queues) (handed b a n queues) o ≡ trimmed b (queues (a + o))
taken-handed b a zero queues none o within = absurd (omega arith)
taken-handed b a (suc n) queues none zero within =
    let at : a ≡ a + 0 = omega arith in
    taken-first b a n queues none (nat_lt 0 (have_of (queues a))) refl ∙ ap (λ (k : ℕ). trimmed b (queues k)) at
taken-handed b a (suc n) queues none (suc o) within =
    let at : (a + 1) + o ≡ a + suc o = omega arith in
    taken-rest b a n queues o (nat_lt 0 (have_of (queues a))) refl
    ∙ taken-handed b (a + 1) n queues none o (omega arith)
    ∙ ap (λ (k : ℕ). trimmed b (queues k)) at

past-handed :
    (b a n : ℕ) (queues : ℕ → Queue) (o : ℕ) → n ≤ o → queues_taken (haves a n queues) (handed b a n queues) o ≡ new_queue
unfolding queues_taken
past-handed b a zero queues o past = refl
past-handed b a (suc n) queues zero past = absurd (omega arith)
past-handed b a (suc n) queues (suc o) past =
    taken-rest b a n queues o (nat_lt 0 (have_of (queues a))) refl ∙ past-handed b (a + 1) n queues o (omega arith)

one-taken :
    (b slots : ℕ) (queues : ℕ → Queue) → ((o : ℕ) → slots ≤ o → have_of (queues o) ≡ 0)
    → ((o : ℕ) → have_of (queues o) ≡ 0 → queues o ≡ new_queue)
    → (o : ℕ) (v : Bool) → nat_lt o slots ≡ v → queues_taken (haves 0 slots queues) (handed b 0 slots queues) o ≡ trimmed b (queues o)
one-taken b slots queues past none o true e =
    let at : 0 + o ≡ o = omega arith in
    taken-handed b 0 slots queues none o (ltb-true o slots e) ∙ ap (λ (k : ℕ). trimmed b (queues k)) at
one-taken b slots queues past none o false e =
    let there = ltb-false o slots e in
    past-handed b 0 slots queues o there ∙ sym (trimmed-new b) ∙ ap (trimmed b) (sym (none o (past o there)))

pub all-taken :
    (b slots : ℕ) (queues : ℕ → Queue) → ((o : ℕ) → slots ≤ o → have_of (queues o) ≡ 0)
    → ((o : ℕ) → have_of (queues o) ≡ 0 → queues o ≡ new_queue)
    → (o : ℕ) → queues_taken (haves 0 slots queues) (handed b 0 slots queues) o ≡ trimmed b (queues o)
all-taken b slots queues past none o = one-taken b slots queues past none o (nat_lt o slots) refl
