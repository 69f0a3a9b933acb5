-- What is due from a tick on of a queue.
use Rattle.std.proofs.Common.{◌≡◌, ℕ, zero, suc, ◌+◌, ◌-◌, ◌≤◌, ◌<◌, true, false, cond, Option, Some, None, List, [], ◌∷◌, map, length, take, drop, get_or, refl, ap, ◌∙◌, arith}
use Rattle.std.specs.Prelude.{nat_le, nat_lt, max, ◌==◌, ◌&&◌}
use Rattle.std.specs.List.{flat_map}
use Rattle.std.proofs.lemmas.Bool.{lt-leb}
use Rattle.std.proofs.lemmas.Bool.Decides.{nat_tests}
use Rattle.std.proofs.lemmas.List.{length-map, length-drop, take_all, get_or-map}
use Rattle.game_trait.specs.Count.{times}
use Rattle.peer_model.specs.Queue.{Sent, Queue, TimesRise, last_time, front_before, trimmed}
use Rattle.peer_model.specs.Peer.{Span}
use Rattle.peer_model.specs.Due.{due_from}
use Rattle.peer_packet.specs.Packet.{sent_bytes}
use Rattle.peer_packet.specs.Snapshot.{queue_head, queue_head_bytes}
use Rattle.peer_calls.specs.Wire.{as_sent}
use Rattle.peer_calls.specs.Handing.{queue_handed}

-- ---- those before it are the first

abbrev pub passed : ℕ → List Sent → ℕ
passed tick xs = times (λ (x : Sent). nat_le (x.time + 1) tick) xs

none-passed : (tick t : ℕ) (xs : List Sent) → TimesRise t xs → tick ≤ t → passed tick xs ≡ 0
unfolding TimesRise times
none-passed tick t [] rise late = refl
none-passed tick t (x ∷ xs) rise late =
    let here = rise.0 in
    let e : nat_le (x.time + 1) tick ≡ false = lt-leb (x.time + 1) tick (omega arith) in
    let more = none-passed tick x.time xs rise.1 (omega arith) in
    rw e (omega arith)

pub passed-front : (tick t : ℕ) (xs : List Sent) → TimesRise t xs → passed tick xs ≡ front_before tick xs
unfolding TimesRise times front_before
passed-front tick t [] rise = refl
passed-front tick t (x ∷ xs) rise =
    elim (nat_lt x.time tick) as (λ v. nat_lt x.time tick ≡ v → passed tick (x ∷ xs) ≡ cond v (suc (front_before tick xs)) 0) [
      | true ↦ λ e. (
          let more = passed-front tick x.time xs rise.1 in
          let here : nat_le (x.time + 1) tick ≡ true = grind (arith, nat_tests) in
          rw here (omega arith)
          )
      | false ↦ λ e. none-passed tick x.time (x ∷ xs) (omega arith, rise.1) (grind (arith, nat_tests))
    ]
    refl

-- what another one that has nothing of it is sent of another's queue
abbrev pub sent_late : ℕ → Queue → Option Span
sent_late tick q = due_from 1 1 0 (λ o. q) (λ o. q.kept) tick

abbrev pub count_in : Option Span → ℕ
count_in None = 0
count_in (Some s) = s.count

pub late-count : (tick : ℕ) (q : Queue) → count_in (sent_late tick q) ≡ passed tick q.commands
late-count tick q =
    let n = passed tick q.commands in
    elim n as (λ k. count_in (cond (nat_lt (max q.kept q.kept) (q.kept + k)) (Some (record { origin = 0; first = max q.kept q.kept; count = (q.kept + k) - max q.kept q.kept })) (cond (nat_lt q.kept q.kept && (q.kept == q.kept + k)) (Some (record { origin = 0; first = q.kept; count = 0 })) None)) ≡ k) [
      | zero ↦ grind (arith, nat_tests)
      | suc k ↦ grind (arith, nat_tests)
    ]

-- ---- the head of what is handed over

pub sent-at : (cs : List Sent) (i : ℕ) (d : Sent) → i < length cs → get_or (map as_sent cs) i (as_sent d) ≡ as_sent (get_or cs i d)
sent-at cs i d there = get_or-map as_sent cs i d (as_sent d) there

-- the time of the command in front of a place
pub last-take : (t : ℕ) (cs : List Sent) (i : ℕ) (d : Sent) → i < length cs → (get_or cs i d).time ≡ last_time t (take (suc i) cs)
unfolding last_time
last-take t [] i d there = absurd (omega arith)
last-take t (c ∷ cs) zero d there = refl
last-take t (c ∷ cs) (suc i) d there = last-take c.time cs i d (omega arith)

pub last-none : (t i : ℕ) (cs : List Sent) → i ≡ 0 → t ≡ last_time t (take i cs)
unfolding last_time
last-none t i cs none = rw none refl

-- ---- its commands

map-drop : (n : ℕ) (cs : List Sent) → drop n (map as_sent cs) ≡ map as_sent (drop n cs)
map-drop zero cs = refl
map-drop (suc n) [] = refl
map-drop (suc n) (c ∷ cs) = map-drop n cs

-- as many as there are behind a place are all
pub behind-is : (cs : List Sent) (first count : ℕ) → first ≤ length cs → count ≡ length cs - first
    → take count (drop first (map as_sent cs)) ≡ map as_sent (drop first cs)
behind-is cs first count within is =
    let long = length-drop first cs in
    let all = length-map (drop first cs) as_sent in
    ap (take count) (map-drop first cs) ∙ take_all count (map as_sent (drop first cs)) (omega arith)

pub bytes-of : (q : Queue) (tick first count : ℕ) → first ≡ front_before tick q.commands → first ≤ length q.commands → count ≡ length q.commands - first
    → flat_map sent_bytes (take count (drop first (map as_sent q.commands))) ≡ flat_map sent_bytes (queue_handed (trimmed tick q)).commands
bytes-of q tick first count is within all =
    ap (flat_map sent_bytes) (behind-is q.commands first count within all ∙ ap (λ (n : ℕ). map as_sent (drop n q.commands)) is)

pub head-is : (q : Queue) (tick first count late before : ℕ) → first ≡ front_before tick q.commands → first ≤ length q.commands → count ≡ length q.commands - first
    → late ≡ q.late → before ≡ last_time q.gone (take first q.commands)
    → queue_head_bytes (record { late = late; count = count; before = before }) ≡ queue_head_bytes (queue_head (queue_handed (trimmed tick q)))
head-is q tick first count late before is within all late_is before_is =
    let long = length-drop first q.commands in
    let same = length-map (drop first q.commands) as_sent in
    let n : count ≡ length (map as_sent (drop (front_before tick q.commands) q.commands)) = (let m : count ≡ length (map as_sent (drop first q.commands)) = omega arith in m ∙ ap (λ (k : ℕ). length (map as_sent (drop k q.commands))) is) in
    let b = before_is ∙ ap (λ (k : ℕ). last_time q.gone (take k q.commands)) is in
    λ i. queue_head_bytes (record { late = late_is i; count = n i; before = b i })
