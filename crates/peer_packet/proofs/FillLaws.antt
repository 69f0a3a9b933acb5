-- What fits, and putting it.
use Rattle.std.proofs.Common.{◌≡◌, ℕ, suc, ◌+◌, ◌-◌, ◌≤◌, ◌<◌, Bool, true, false, cond, ◌&&◌, ◌||◌, ◌==◌, List, [], ◌∷◌, ◌++◌, length, take, drop, get_or, refl, sym, ap, subst, ◌∙◌, arith}
use Rattle.std.specs.Prelude.{nat_le, nat_lt}
use Rattle.std.specs.List.{flat_map}
use Rattle.std.proofs.lemmas.Bool.{le-leb, le-ltb, lt-leb, leb-true}
use Rattle.std.proofs.lemmas.List.{append-nil, take_more, drop_more, length-append, length-take, length-drop, take-take, take-append-drop, get_or-drop}
use Rattle.std.proofs.lemmas.Grind.{flat_map-append}
use Rattle.std.proofs.lemmas.List.Concat.{flat_map-cons}
use Rattle.peer_packet.specs.declared.part.PartHead.{PartHead}
use Rattle.peer_packet.specs.Packet.{Sent, sent_bytes, head_bytes, part_bytes}
use Rattle.peer_packet.specs.Filling.{fitting}

-- ---- what fits

piece_step : (cs : List Sent) (from count i : ℕ) (d : Sent) → i < count → from + count ≤ length cs
    → take (count - i) (drop (from + i) cs) ≡ get_or cs (from + i) d ∷ take (count - (i + 1)) (drop (from + (i + 1)) cs)
piece_step cs from count i d lt le =
    let k : count - i ≡ suc (count - (i + 1)) = omega arith in
    let at : (from + i) + 1 ≡ from + (i + 1) = omega arith in
    ap (λ (l : List Sent). take (count - i) l) (drop_more cs (from + i) d (omega arith))
    ∙ ap (λ (n : ℕ). take n (get_or cs (from + i) d ∷ drop ((from + i) + 1) cs)) k
    ∙ ap (λ (n : ℕ). get_or cs (from + i) d ∷ take (count - (i + 1)) (drop n cs)) at

pub fit_on : (cs : List Sent) (from count i left total : ℕ) (d : Sent) (size : ℕ) → i < count → from + count ≤ length cs → size ≡ 5 + length (get_or cs (from + i) d).payload → size ≤ left
    → i + fitting left (take (count - i) (drop (from + i) cs)) ≡ total
    → (i + 1) + fitting (left - size) (take (count - (i + 1)) (drop (from + (i + 1)) cs)) ≡ total
unfolding fitting
fit_on cs from count i left total d size lt le is fits so_far =
    let c = get_or cs (from + i) d in
    let rest = take (count - (i + 1)) (drop (from + (i + 1)) cs) in
    let test : nat_le (5 + length c.payload) left ≡ true = le-leb (5 + length c.payload) left (omega arith) in
    let one : fitting left (take (count - i) (drop (from + i) cs)) ≡ suc (fitting (left - (5 + length c.payload)) rest) =
    ap (fitting left) (piece_step cs from count i d lt le) ∙ rw test refl in
    let same : fitting (left - size) rest ≡ fitting (left - (5 + length c.payload)) rest = ap (λ (n : ℕ). fitting (left - n) rest) is in
    omega arith

pub fit_stop : (cs : List Sent) (from count i left total : ℕ) (d : Sent) (size : ℕ) → i < count → from + count ≤ length cs → size ≡ 5 + length (get_or cs (from + i) d).payload → left < size
    → i + fitting left (take (count - i) (drop (from + i) cs)) ≡ total → i ≡ total
unfolding fitting
fit_stop cs from count i left total d size lt le is over so_far =
    let c = get_or cs (from + i) d in
    let test : nat_le (5 + length c.payload) left ≡ false = lt-leb (5 + length c.payload) left (omega arith) in
    let none : fitting left (take (count - i) (drop (from + i) cs)) ≡ 0 = ap (fitting left) (piece_step cs from count i d lt le) ∙ rw test refl in
    omega arith

pub fit_done : (cs : List Sent) (from count i left total : ℕ) → count ≤ i → i ≤ count
    → i + fitting left (take (count - i) (drop (from + i) cs)) ≡ total → count ≡ total
unfolding fitting
fit_done cs from count i left total over within so_far =
    let k : count - i ≡ 0 = omega arith in
    let none : fitting left (take (count - i) (drop (from + i) cs)) ≡ 0 = ap (λ (n : ℕ). fitting left (take n (drop (from + i) cs))) k in
    omega arith

pub fit_few : (room : ℕ) (cs : List Sent) → fitting room cs ≤ length cs
unfolding fitting
fit_few room [] = omega arith
fit_few room (c ∷ cs) =
    let more = fit_few (room - (5 + length c.payload)) cs in
    elim (nat_le (5 + length c.payload) room) as (λ v. cond {A = ℕ} v (suc (fitting (room - (5 + length c.payload)) cs)) 0 ≤ suc (length cs)) [ true ↦ omega (arith, more) | false ↦ omega arith ]

-- ---- putting

flat_one : (c : Sent) → flat_map sent_bytes (c ∷ []) ≡ sent_bytes c
flat_one c = flat_map-cons sent_bytes c [] ∙ append-nil (sent_bytes c)

-- one more of these commands
pub sents_more : (cs : List Sent) (from count i : ℕ) (d : Sent) → i < count → from + count ≤ length cs
    → flat_map sent_bytes (take (i + 1) (drop from cs)) ≡ flat_map sent_bytes (take i (drop from cs)) ++ sent_bytes (get_or cs (from + i) d)
sents_more cs from count i d lt le =
    let long = length-drop from cs in
    ap (flat_map sent_bytes) (take_more (drop from cs) i d (omega arith))
    ∙ flat_map-append sent_bytes (take i (drop from cs)) (get_or (drop from cs) i d ∷ [])
    ∙ ap (λ (t : List ℕ). flat_map sent_bytes (take i (drop from cs)) ++ t) (flat_one (get_or (drop from cs) i d))
    ∙ ap (λ (c : Sent). flat_map sent_bytes (take i (drop from cs)) ++ sent_bytes c) (get_or-drop from cs i d)

-- and there is room for it where there is for all
pub sents_room : (cs : List Sent) (from count i : ℕ) (d : Sent) → i < count → from + count ≤ length cs
    → length (flat_map sent_bytes (take i (drop from cs))) + (5 + length (get_or cs (from + i) d).payload) ≤ length (flat_map sent_bytes (take count (drop from cs)))
sents_room cs from count i d lt le =
    let c = get_or cs (from + i) d in
    let ys = take count (drop from cs) in
    let front : take (i + 1) ys ≡ take (i + 1) (drop from cs) = take-take (i + 1) count (drop from cs) (omega arith) in
    let whole : flat_map sent_bytes ys ≡ flat_map sent_bytes (take (i + 1) (drop from cs)) ++ flat_map sent_bytes (drop (i + 1) ys) =
    ap (flat_map sent_bytes) (sym (take-append-drop (i + 1) ys)) ∙ flat_map-append sent_bytes (take (i + 1) ys) (drop (i + 1) ys) ∙ ap (λ (l : List Sent). flat_map sent_bytes l ++ flat_map sent_bytes (drop (i + 1) ys)) front in
    let more = sents_more cs from count i d lt le in
    let long = ap (λ (t : List ℕ). length t) whole in
    let step = ap (λ (t : List ℕ). length t) more in
    let one : length (sent_bytes c) ≡ 5 + length c.payload = omega arith in
    omega (arith, long, step, one, length-append (flat_map sent_bytes (take (i + 1) (drop from cs))) (flat_map sent_bytes (drop (i + 1) ys)), length-append (flat_map sent_bytes (take i (drop from cs))) (sent_bytes c))

-- no command, where one is named that isn't there
abbrev pub no_sent : Sent
no_sent = record { time = 0; payload = [] }

pub sent_is : (time : ℕ) (payload : List ℕ) (c : Sent) → time ≡ c.time → payload ≡ c.payload → record { time = time; payload = payload } ≡ c
sent_is time payload c t p = λ i. record { time = t i; payload = p i }

-- ---- a part

-- what fits has room
pub fit_bytes : (room : ℕ) (cs : List Sent) → length (flat_map sent_bytes (take (fitting room cs) cs)) ≤ room
unfolding fitting
fit_bytes room [] = omega arith
fit_bytes room (c ∷ cs) =
    let size = 5 + length c.payload in
    let one : length (sent_bytes c) ≡ size = omega arith in
    let more = fit_bytes (room - size) cs in
    let k = fitting (room - size) cs in
    let whole = ap (λ (t : List ℕ). length t) (flat_map-cons sent_bytes c (take k cs)) in
    elim (nat_le size room) as (λ v. nat_le size room ≡ v → length (flat_map sent_bytes (take (cond {A = ℕ} v (suc k) 0) (c ∷ cs))) ≤ room) [
      | true ↦ λ e. (let fits = leb-true size room e in omega (arith, one, more, whole, fits, length-append (sent_bytes c) (flat_map sent_bytes (take k cs))))
      | false ↦ λ e. omega arith
    ]
    refl

-- what is put of a piece
pub piece_room : (room count from : ℕ) (cs : List Sent) (k : ℕ) → k ≡ fitting room (take count (drop from cs)) → (k ≤ count) × (length (flat_map sent_bytes (take k (drop from cs))) ≤ room)
piece_room room count from cs k is =
    let few = fit_few room (take count (drop from cs)) in
    let short = length-take count (drop from cs) in
    let fits = fit_bytes room (take count (drop from cs)) in
    let le : k ≤ count = omega arith in
    let same : take (fitting room (take count (drop from cs))) (take count (drop from cs)) ≡ take k (drop from cs) =
    ap (λ (n : ℕ). take n (take count (drop from cs))) (sym is) ∙ take-take k count (drop from cs) le in
    (le, subst (λ (l : List Sent). length (flat_map sent_bytes l) ≤ room) same fits)

pub piece_bytes : (h : PartHead) (count from : ℕ) (cs : List Sent) (k : ℕ) → k ≤ count → from + count ≤ length cs → h.count ≡ k
    → head_bytes h ++ flat_map sent_bytes (take k (drop from cs))
    ≡ part_bytes (record { origin = h.origin; first = h.first; before = h.before; commands = take k (take count (drop from cs)) })
piece_bytes h count from cs k le there is =
    let same : take k (take count (drop from cs)) ≡ take k (drop from cs) = take-take k count (drop from cs) le in
    let long : length (take k (take count (drop from cs))) ≡ h.count =
    (let a = length-take k (drop from cs) in let b = length-drop from cs in let c = ap (λ (l : List Sent). length l) same in omega arith) in
    let head : head_bytes h ≡ head_bytes (record { origin = h.origin; count = length (take k (take count (drop from cs))); first = h.first; before = h.before }) =
    ap (λ (n : ℕ). head_bytes (record { origin = h.origin; count = n; first = h.first; before = h.before })) (sym long) in
    ap (λ (t : List ℕ). t ++ flat_map sent_bytes (take k (drop from cs))) head
    ∙ ap (λ (l : List Sent). head_bytes (record { origin = h.origin; count = length (take k (take count (drop from cs))); first = h.first; before = h.before }) ++ flat_map sent_bytes l) (sym same)

-- a packet ends before a part, or not
pub ends_is : (room count from : ℕ) (cs : List Sent) (k : ℕ) (b : Bool) → 11 ≤ room → from + count ≤ length cs → k ≡ fitting (room - 11) (take count (drop from cs))
    → (nat_lt 0 count && (k == 0)) ≡ b
    → (nat_lt room 11 || (nat_lt 0 (length (take count (drop from cs))) && (fitting (room - 11) (take count (drop from cs)) == 0))) ≡ b
ends_is room count from cs k b enough there is e =
    let short : nat_lt room 11 ≡ false = le-ltb room 11 enough in
    let long : length (take count (drop from cs)) ≡ count = (let a = length-take count (drop from cs) in let d = length-drop from cs in omega arith) in
    rw (short, long, ← is) e
