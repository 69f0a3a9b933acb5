-- What waits of a piece behind a cursor.
use Rattle.std.proofs.Common.{◌≡◌, ℕ, ◌+◌, ◌-◌, ◌≤◌, ◌<◌, true, false, List, [], ◌∷◌, ◌++◌, length, take, drop, get_or, refl, ap, sym, ◌∙◌, arith}
use Rattle.std.specs.Prelude.{nat_le, nat_lt}
use Rattle.std.proofs.lemmas.Bool.{le-leb, lt-leb, lt-ltb, le-ltb}
use Rattle.std.proofs.lemmas.List.{length-take, length-drop, get_or-drop}
use Rattle.std.proofs.lemmas.List.{take_more, take-take, drop-take, drop-drop}
use Rattle.peer_packet.specs.declared.cursor.Cursor.{Cursor}
use Rattle.peer_packet.specs.declared.filling.Piece.{Piece}
use Rattle.peer_packet.specs.Packet.{Sent, Part}
use Rattle.peer_packet.specs.Filling.{last_time, part_of, later_part, behind_cursor}

-- ---- a part by itself

pub below : (c : Cursor) (p : Part) → p.origin < c.slot → [] ≡ behind_cursor c (p ∷ [])
unfolding behind_cursor
below c p less = (let e : nat_lt p.origin c.slot ≡ true = lt-ltb p.origin c.slot less in rw e refl)

pub above : (c : Cursor) (p : Part) → c.slot < p.origin → (p ∷ []) ≡ behind_cursor c (p ∷ [])
unfolding behind_cursor
above c p more =
    let a : nat_lt p.origin c.slot ≡ false = le-ltb p.origin c.slot (omega arith) in
    let b : nat_lt c.slot p.origin ≡ true = lt-ltb c.slot p.origin more in
    rw (a, b) refl

pub before : (c : Cursor) (p : Part) → c.slot ≤ p.origin → p.origin ≤ c.slot → c.number ≤ p.first → (p ∷ []) ≡ behind_cursor c (p ∷ [])
unfolding behind_cursor
before c p low high here =
    let a : nat_lt p.origin c.slot ≡ false = le-ltb p.origin c.slot low in
    let b : nat_lt c.slot p.origin ≡ false = le-ltb c.slot p.origin high in
    let d : nat_le c.number p.first ≡ true = le-leb c.number p.first here in
    rw (a, b, d) refl

pub past : (c : Cursor) (p : Part) → c.slot ≤ p.origin → p.origin ≤ c.slot → p.first < c.number → p.first + length p.commands ≤ c.number → [] ≡ behind_cursor c (p ∷ [])
unfolding behind_cursor
past c p low high up over =
    let a : nat_lt p.origin c.slot ≡ false = le-ltb p.origin c.slot low in
    let b : nat_lt c.slot p.origin ≡ false = le-ltb c.slot p.origin high in
    let d : nat_le c.number p.first ≡ false = lt-leb c.number p.first up in
    let e : nat_le (p.first + length p.commands) c.number ≡ true = le-leb (p.first + length p.commands) c.number over in
    rw (a, b, d, e) refl

pub within : (c : Cursor) (p : Part) → c.slot ≤ p.origin → p.origin ≤ c.slot → p.first < c.number → c.number < p.first + length p.commands
    → (later_part (c.number - p.first) p ∷ []) ≡ behind_cursor c (p ∷ [])
unfolding behind_cursor
within c p low high up under =
    let a : nat_lt p.origin c.slot ≡ false = le-ltb p.origin c.slot low in
    let b : nat_lt c.slot p.origin ≡ false = le-ltb c.slot p.origin high in
    let d : nat_le c.number p.first ≡ false = lt-leb c.number p.first up in
    let e : nat_le (p.first + length p.commands) c.number ≡ false = lt-leb (p.first + length p.commands) c.number under in
    rw (a, b, d, e) refl

-- ---- of a piece

pub many : (x : Piece) (cs : List Sent) → x.from + x.count ≤ length cs → length (part_of x cs).commands ≡ x.count
many x cs there =
    let took = length-take x.count (drop x.from cs) in
    let left = length-drop x.from cs in
    omega arith

last-more : (t : ℕ) (xs : List Sent) (y : Sent) → last_time t (xs ++ y ∷ []) ≡ y.time
unfolding last_time
last-more t [] y = refl
last-more t (x ∷ xs) y = last-more x.time xs y

-- the last of the first commands
last-is : (t n : ℕ) (xs : List Sent) (d : Sent) → n < length xs → last_time t (take (n + 1) xs) ≡ (get_or xs n d).time
last-is t n xs d less = ap (last_time t) (take_more xs n d less) ∙ last-more t (take n xs) (get_or xs n d)

pub later-is : (x : Piece) (cs : List Sent) (k time : ℕ) (d : Sent) → x.from + x.count ≤ length cs → 0 < k → k < x.count → time ≡ (get_or cs (x.from + k - 1) d).time
    → part_of (record { origin = x.origin; first = x.first + k; before = time; from = x.from + k; count = x.count - k }) cs ≡ later_part k (part_of x cs)
later-is x cs k time d there some less is =
    let left = length-drop x.from cs in
    let more : k + (x.count - k) ≡ x.count = omega arith in
    let one : (k - 1) + 1 ≡ k = omega arith in
    let at : x.from + (k - 1) ≡ x.from + k - 1 = omega arith in
    let before : time ≡ last_time x.before (take k (take x.count (drop x.from cs))) =
    is ∙ ap (λ (n : ℕ). (get_or cs n d).time) (sym at)
    ∙ ap (λ (c : Sent). c.time) (sym (get_or-drop x.from cs (k - 1) d))
    ∙ sym (last-is x.before (k - 1) (drop x.from cs) d (omega arith))
    ∙ ap (λ (n : ℕ). last_time x.before (take n (drop x.from cs))) one
    ∙ ap (last_time x.before) (sym (take-take k x.count (drop x.from cs) (omega arith))) in
    let commands : take (x.count - k) (drop (x.from + k) cs) ≡ drop k (take x.count (drop x.from cs)) =
    ap (take (x.count - k)) (sym (drop-drop k x.from cs))
    ∙ sym (drop-take k (x.count - k) (drop x.from cs))
    ∙ ap (λ (n : ℕ). drop k (take n (drop x.from cs))) more in
    λ i. record { origin = x.origin; first = x.first + k; before = before i; commands = commands i }
