-- What is due of a slot, number by number.
use Rattle.std.proofs.Common.{◌≡◌, ℕ, zero, suc, ◌+◌, ◌-◌, ◌≤◌, ◌<◌, true, false, List, [], ◌∷◌, map, length, take, drop, get_or, refl, ap, sym, ◌∙◌, arith}
use Rattle.std.specs.Prelude.{nat_le}
use Rattle.std.proofs.Math.ListN.{drop_of_length-le}
use Rattle.std.proofs.lemmas.List.{take-append-drop}
use Rattle.std.proofs.lemmas.Bool.{le-leb, lt-leb, leb-true, leb-false}
use Rattle.game_trait.specs.Count.{times}
use Rattle.game_trait.proofs.Counts.{times-append, times-most}
use Rattle.peer_model.specs.Queue.{Sent, Queue, TimesRise, last_time, part_of}
use Rattle.peer_packet.specs.Packet as wire
use Rattle.peer_packet.specs.Filling as filling
use Rattle.peer_calls.specs.Wire.{as_sent, as_part}

-- ---- since times never fall, those that were due so many ticks ago are the first

abbrev pub passed_on : ℕ → ℕ → List Sent → ℕ
passed_on relay clock xs = times (λ (x : Sent). nat_le (x.time + relay) clock) xs

rise-at : (t : ℕ) (xs : List Sent) (m : ℕ) (d : Sent) → TimesRise t xs → m < length xs → t ≤ (get_or xs m d).time
unfolding TimesRise
rise-at t [] m d rise there = absurd (omega arith)
rise-at t (x ∷ xs) zero d rise there = rise.0
rise-at t (x ∷ xs) (suc m) d rise there =
    (let more = rise-at x.time xs m d rise.1 (omega arith) in let here = rise.0 in omega arith)

none-passed : (relay clock t : ℕ) (xs : List Sent) → TimesRise t xs → clock < t + relay → passed_on relay clock xs ≡ 0
unfolding TimesRise times
none-passed relay clock t [] rise late = refl
none-passed relay clock t (x ∷ xs) rise late =
    let here = rise.0 in
    let e : nat_le (x.time + relay) clock ≡ false = lt-leb (x.time + relay) clock (omega arith) in
    let more = none-passed relay clock x.time xs rise.1 (omega arith) in
    rw e (omega arith)

first-passed :
    (relay clock t : ℕ) (xs : List Sent) (m : ℕ) (d : Sent) → TimesRise t xs → m < length xs → (get_or xs m d).time + relay ≤ clock
    → passed_on relay clock (take (suc m) xs) ≡ suc m
unfolding TimesRise times
first-passed relay clock t [] m d rise there passed = absurd (omega arith)
first-passed relay clock t (x ∷ xs) zero d rise there passed =
    let e : nat_le (x.time + relay) clock ≡ true = le-leb (x.time + relay) clock passed in
    rw e refl
first-passed relay clock t (x ∷ xs) (suc m) d rise there passed =
    let up = rise-at x.time xs m d rise.1 (omega arith) in
    let e : nat_le (x.time + relay) clock ≡ true = le-leb (x.time + relay) clock (omega arith) in
    let more = first-passed relay clock x.time xs m d rise.1 (omega arith) passed in
    rw e (omega arith)

-- a test of the one in the middle
pub passed-up :
    (relay clock t : ℕ) (xs : List Sent) (m : ℕ) (d : Sent) → TimesRise t xs → m < length xs → nat_le ((get_or xs m d).time + relay) clock ≡ true
    → passed_on relay clock (take (m + 1) xs) ≡ m + 1
passed-up relay clock t xs m d rise there passed =
    let n : m + 1 ≡ suc m = omega arith in
    ap (λ (k : ℕ). passed_on relay clock (take k xs)) n
    ∙ first-passed relay clock t xs m d rise there (leb-true ((get_or xs m d).time + relay) clock passed) ∙ sym n

pub passed-down :
    (relay clock t : ℕ) (xs : List Sent) (m : ℕ) (d : Sent) → TimesRise t xs → m < length xs → nat_le ((get_or xs m d).time + relay) clock ≡ false
    → passed_on relay clock (drop m xs) ≡ 0
unfolding TimesRise
passed-down relay clock t [] m d rise there not = absurd (omega arith)
passed-down relay clock t (x ∷ xs) zero d rise there not =
    none-passed relay clock x.time (x ∷ xs) (omega arith, rise.1) (leb-false (x.time + relay) clock not)
passed-down relay clock t (x ∷ xs) (suc m) d rise there not = passed-down relay clock x.time xs m d rise.1 (omega arith) not

pub passed-found :
    (relay clock low high : ℕ) (xs : List Sent) → passed_on relay clock (take low xs) ≡ low → passed_on relay clock (drop high xs) ≡ 0
    → high ≤ low → low ≤ high → low ≡ passed_on relay clock xs
passed-found relay clock low high xs front rest a b =
    let same : low ≡ high = omega arith in
    let whole = ap (passed_on relay clock) (take-append-drop low xs) in
    let parts = times-append (λ (x : Sent). nat_le (x.time + relay) clock) (take low xs) (drop low xs) in
    let none = ap (λ (k : ℕ). passed_on relay clock (drop k xs)) same ∙ rest in
    omega arith

pub passed-all : (relay clock high : ℕ) (xs : List Sent) → high ≡ length xs → passed_on relay clock (drop high xs) ≡ 0
unfolding times
passed-all relay clock high xs is = ap (passed_on relay clock) (drop_of_length-le xs (omega arith))

pub passed-none : (relay clock : ℕ) (xs : List Sent) → passed_on relay clock (take 0 xs) ≡ 0
unfolding times
passed-none relay clock xs = refl

pub passed-few : (relay clock : ℕ) (xs : List Sent) → passed_on relay clock xs ≤ length xs
passed-few relay clock xs = times-most (λ (x : Sent). nat_le (x.time + relay) clock) xs

-- ---- a piece

map-take : (n : ℕ) (cs : List Sent) → take n (map as_sent cs) ≡ map as_sent (take n cs)
map-take zero cs = refl
map-take (suc n) [] = refl
map-take (suc n) (c ∷ cs) = ap (λ (l : List wire.Sent). as_sent c ∷ l) (map-take n cs)

map-drop : (n : ℕ) (cs : List Sent) → drop n (map as_sent cs) ≡ map as_sent (drop n cs)
map-drop zero cs = refl
map-drop (suc n) [] = refl
map-drop (suc n) (c ∷ cs) = map-drop n cs

-- the part of a piece is that of its span
pub piece-is :
    (o first before from count : ℕ) (q : Queue) → from ≡ first - q.kept → before ≡ last_time q.gone (take from q.commands)
    → filling.part_of (record { origin = o; first = first; before = before; from = from; count = count }) (map as_sent q.commands)
    ≡ as_part (part_of o first count q)
piece-is o first before from count q at time =
    let commands : take count (drop from (map as_sent q.commands)) ≡ map as_sent (take count (drop (first - q.kept) q.commands)) =
    ap (take count) (map-drop from q.commands) ∙ map-take count (drop from q.commands)
    ∙ ap (λ (k : ℕ). map as_sent (take count (drop k q.commands))) at in
    let gone = time ∙ ap (λ (k : ℕ). last_time q.gone (take k q.commands)) at in
    λ i. record { origin = o; first = first; before = gone i; commands = commands i }

-- the time of the command in front of a place
pub last-take : (t : ℕ) (cs : List Sent) (i : ℕ) (d : Sent) → i < length cs → (get_or cs i d).time ≡ last_time t (take (suc i) cs)
unfolding last_time
last-take t [] i d there = absurd (omega arith)
last-take t (c ∷ cs) zero d there = refl
last-take t (c ∷ cs) (suc i) d there = last-take c.time cs i d (omega arith)

pub last-none : (t i : ℕ) (cs : List Sent) → i ≡ 0 → t ≡ last_time t (take i cs)
unfolding last_time
last-none t i cs none = rw none refl
