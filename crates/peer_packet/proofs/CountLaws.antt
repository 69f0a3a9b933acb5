-- Counts both ways.
use Rattle.std.proofs.Common.{◌≡◌, ℕ, zero, suc, ◌+◌, ◌*◌, ◌^◌, ◌%◌, ◌/◌, ◌-◌, ◌<◌, ◌≤◌, Bool, true, false, cond, eqb, List, [], ◌∷◌, ◌++◌, length, take, drop, get_or, Ok, refl, sym, ap, subst, ◌∙◌, append_assoc, arith}
use Rattle.std.specs.Prelude.{nat_lt}
use Rattle.std.specs.Int.{w32, w64, to_le_bytes}
use Rattle.std.specs.List.{AllByRecursion}
use Rattle.std.proofs.lemmas.Bool.{eqb-true, eqb-false, eq-eqb, ltb-false}
use Rattle.std.proofs.lemmas.Nat.{div-add-mod', mod_below, div-mul-add, mod-mul-add}
use Rattle.std.proofs.Math.Nat.{pow-suc, pow-le-pow_right}
use Rattle.std.proofs.lemmas.List.{append-nil, take_more, drop_more, drop_all, take-append-drop, length-append, length-drop}
use Rattle.tss_io.specs.Results.{◌>>=◌}
use Rattle.tss_io.proofs.Results.{bind_ok, unless_ok, ok_is}
use Rattle.peer_packet.specs.declared.fault.Fault.TheVariants as faults
use Rattle.peer_packet.specs.Packet.{bit_of, mask_of, count_bytes, counts_bytes, vector_bytes}
use Rattle.peer_packet.specs.Reading.{number_at, count_at, counts_at, vector_at}
use Rattle.peer_packet.proofs.FieldLaws.{IsBytes, Takes, Takes-then, check_ok, wide32, wide64, number_takes, number_again}

count_takes : (b : Bool) (bytes : List ℕ) (x : ℕ × List ℕ) → IsBytes bytes → count_at b bytes ≡ Ok x → Takes bytes (count_bytes x.0) x.1 × (x.0 < 2 ^ 32) × (nat_lt 0 x.0 ≡ b)
unfolding count_at
count_takes false bytes x fits e =
    subst (λ (y : ℕ × List ℕ). Takes bytes (count_bytes y.0) y.1 × (y.0 < 2 ^ 32) × (nat_lt 0 y.0 ≡ false)) (ok_is (0, bytes) x e) (record { parts = refl; rest_fits = fits }, omega arith, refl)
count_takes true bytes x fits e =
    let a = bind_ok _ _ _ e in
    let b = bind_ok _ _ _ a.2 in
    let right = check_ok (nat_lt 0 a.0.0) faults.Vector b.0 b.1 in
    let t = number_takes w32 (2 ^ 32) wide32 faults.Vector bytes a.0.0 a.0.1 fits a.1 in
    subst (λ (y : ℕ × List ℕ). Takes bytes (count_bytes y.0) y.1 × (y.0 < 2 ^ 32) × (nat_lt 0 y.0 ≡ true)) (ok_is a.0 x b.2) (rw right t.0, t.1, right)

count_by : (b : Bool) (n : ℕ) (rest : List ℕ) → nat_lt 0 n ≡ b → n < 2 ^ 32 → count_at b (cond b (to_le_bytes w32 n) [] ++ rest) ≡ Ok (n, rest)
unfolding count_at
count_by true n rest e lt = rw (number_again w32 (2 ^ 32) wide32 faults.Vector n rest lt, e) refl
count_by false n rest e lt =
    let low = ltb-false 0 n e in
    let none : 0 ≡ n = omega (arith, low) in
    ap (λ (k : ℕ). Ok (k, rest)) none

count_again : (n : ℕ) (rest : List ℕ) → n < 2 ^ 32 → count_at (nat_lt 0 n) (count_bytes n ++ rest) ≡ Ok (n, rest)
count_again n rest lt = count_by (nat_lt 0 n) n rest refl lt

-- ---- masks

halves : (mask m : ℕ) (b : Bool) → b ≡ eqb (mask % 2) 1 → mask / 2 ≡ m → mask ≡ cond b 1 0 + 2 * m
halves mask m true e h =
    let odd = eqb-true (mask % 2) 1 (sym e) in
    omega (arith, odd, h, div-add-mod' mask 2)
halves mask m false e h =
    let even = eqb-false (mask % 2) 1 (sym e) in
    let two = mod_below mask 2 (omega arith) in
    omega (arith, even, h, two, div-add-mod' mask 2)

low_bit : (b : Bool) (m : ℕ) → eqb ((cond b 1 0 + 2 * m) % 2) 1 ≡ b
low_bit true m = eq-eqb _ _ (ap (λ (x : ℕ). x % 2) (omega arith) ∙ mod-mul-add m 2 1 (omega arith))
low_bit false m = let e : (0 + 2 * m) % 2 ≡ 0 = ap (λ (x : ℕ). x % 2) (omega arith) ∙ mod-mul-add m 2 0 (omega arith) in rw e refl

high_bits : (b : Bool) (m : ℕ) → (cond b 1 0 + 2 * m) / 2 ≡ m
high_bits true m = ap (λ (x : ℕ). x / 2) (omega arith) ∙ div-mul-add m 2 1 (omega arith)
high_bits false m = ap (λ (x : ℕ). x / 2) (omega arith) ∙ div-mul-add m 2 0 (omega arith)

pub bit_most : (b : Bool) → cond b 1 0 ≤ 1
bit_most true = omega arith
bit_most false = omega arith

pub mask_below : (have : List ℕ) → mask_of have < 2 ^ length have
unfolding mask_of
mask_below [] = omega arith
mask_below (n ∷ ns) =
    let rest = mask_below ns in
    let bit = bit_most (nat_lt 0 n) in
    rw pow-suc (omega (arith, rest, bit))

-- ---- counts

counts_take : (slots mask : ℕ) (bytes : List ℕ) (x : List ℕ × List ℕ) → IsBytes bytes → counts_at slots mask bytes ≡ Ok x
    → Takes bytes (counts_bytes x.0) x.1 × (mask ≡ mask_of x.0) × (length x.0 ≡ slots) × AllByRecursion (λ n. n < 2 ^ 32) x.0
unfolding counts_at counts_bytes mask_of
counts_take zero mask bytes x fits e =
    let g = unless_ok (eqb mask 0) faults.Vector ([], bytes) x e in
    let none = eqb-true mask 0 g.0 in
    subst (λ (y : List ℕ × List ℕ). Takes bytes (counts_bytes y.0) y.1 × (mask ≡ mask_of y.0) × (length y.0 ≡ 0) × AllByRecursion (λ n. n < 2 ^ 32) y.0) g.1 (record { parts = refl; rest_fits = fits }, none, refl, tt)
counts_take (suc slots) mask bytes x fits e =
    let a = bind_ok _ _ _ e in
    let b = bind_ok _ _ _ a.2 in
    let first = count_takes (eqb (mask % 2) 1) bytes a.0 fits a.1 in
    let more = counts_take slots (mask / 2) a.0.1 b.0 first.0.rest_fits b.1 in
    let both = Takes-then bytes (count_bytes a.0.0) a.0.1 (counts_bytes b.0.0) b.0.1 first.0 more.0 in
    let mask_is = halves mask (mask_of b.0.0) (nat_lt 0 a.0.0) first.2 more.1 in
    subst (λ (y : List ℕ × List ℕ). Takes bytes (counts_bytes y.0) y.1 × (mask ≡ mask_of y.0) × (length y.0 ≡ suc slots) × AllByRecursion (λ n. n < 2 ^ 32) y.0) (ok_is (a.0.0 ∷ b.0.0, b.0.1) x b.2) (both, mask_is, ap suc more.2, (first.1, more.3))

counts_again : (have rest : List ℕ) → AllByRecursion (λ n. n < 2 ^ 32) have → counts_at (length have) (mask_of have) (counts_bytes have ++ rest) ≡ Ok (have, rest)
unfolding counts_at counts_bytes mask_of
counts_again [] rest fits = refl
counts_again (n ∷ ns) rest fits =
    let regrouped : counts_bytes (n ∷ ns) ++ rest ≡ count_bytes n ++ (counts_bytes ns ++ rest) = append_assoc (count_bytes n) (counts_bytes ns) rest in
    ap (counts_at (suc (length ns)) (mask_of (n ∷ ns))) regrouped
    ∙ rw (low_bit (nat_lt 0 n) (mask_of ns), high_bits (nat_lt 0 n) (mask_of ns), count_again n (counts_bytes ns ++ rest) fits.0, counts_again ns rest fits.1) refl

counts_long : (slots mask : ℕ) (bytes : List ℕ) (x : List ℕ × List ℕ) → counts_at slots mask bytes ≡ Ok x → length x.0 ≡ slots
unfolding counts_at
counts_long zero mask bytes x e = let g = unless_ok (eqb mask 0) faults.Vector ([], bytes) x e in ap (λ (y : List ℕ × List ℕ). length y.0) (sym g.1)
counts_long (suc slots) mask bytes x e =
    let a = bind_ok (count_at (eqb (mask % 2) 1) bytes) (λ n. counts_at slots (mask / 2) n.1 >>= λ more. Ok (n.0 ∷ more.0, more.1)) x e in
    let b = bind_ok (counts_at slots (mask / 2) a.0.1) (λ more. Ok (a.0.0 ∷ more.0, more.1)) x a.2 in
    ap (λ (y : List ℕ × List ℕ). length y.0) (sym (ok_is (a.0.0 ∷ b.0.0, b.0.1) x b.2)) ∙ ap suc (counts_long slots (mask / 2) a.0.1 b.0 b.1)

pub vector_long : (slots : ℕ) (bytes : List ℕ) (x : List ℕ × List ℕ) → vector_at slots bytes ≡ Ok x → length x.0 ≡ slots
unfolding vector_at
vector_long slots bytes x e =
    let a = bind_ok (number_at w64 faults.Vector bytes) (λ mask. counts_at slots mask.0 mask.1) x e in
    counts_long slots a.0.0 a.0.1 x a.2

pub vector_takes : (slots : ℕ) (bytes : List ℕ) (x : List ℕ × List ℕ) → IsBytes bytes → vector_at slots bytes ≡ Ok x
    → Takes bytes (vector_bytes x.0) x.1 × (length x.0 ≡ slots) × AllByRecursion (λ n. n < 2 ^ 32) x.0
unfolding vector_at
vector_takes slots bytes x fits e =
    let a = bind_ok _ _ _ e in
    let first = number_takes w64 (2 ^ 64) wide64 faults.Vector bytes a.0.0 a.0.1 fits a.1 in
    let more = counts_take slots a.0.0 a.0.1 x first.0.rest_fits a.2 in
    let front : Takes bytes (to_le_bytes w64 (mask_of x.0)) a.0.1 = subst (λ (m : ℕ). Takes bytes (to_le_bytes w64 m) a.0.1) more.1 first.0 in
    (Takes-then bytes (to_le_bytes w64 (mask_of x.0)) a.0.1 (counts_bytes x.0) x.1 front more.0, more.2, more.3)

pub vector_again : (slots : ℕ) (have rest : List ℕ) → length have ≡ slots → slots ≤ 64 → AllByRecursion (λ n. n < 2 ^ 32) have → vector_at slots (vector_bytes have ++ rest) ≡ Ok (have, rest)
unfolding vector_at
vector_again slots have rest len le fits =
    let regrouped : vector_bytes have ++ rest ≡ to_le_bytes w64 (mask_of have) ++ (counts_bytes have ++ rest) = append_assoc (to_le_bytes w64 (mask_of have)) (counts_bytes have) rest in
    let power : 2 ^ length have ≤ 2 ^ 64 = pow-le-pow_right {n = 2} (omega arith) {i = length have} {j = 64} (omega (arith, len, le)) in
    let mask = mask_below have in
    ap (vector_at slots) regrouped ∙ rw (number_again w64 (2 ^ 64) wide64 faults.Vector (mask_of have) (counts_bytes have ++ rest) (omega (arith, mask, power)), ← len) (counts_again have rest fits)

-- ---- putting

counts-append : (xs ys : List ℕ) → counts_bytes (xs ++ ys) ≡ counts_bytes xs ++ counts_bytes ys
unfolding counts_bytes
counts-append [] ys = refl
counts-append (n ∷ ns) ys = ap (λ (t : List ℕ). count_bytes n ++ t) (counts-append ns ys) ∙ sym (append_assoc (count_bytes n) (counts_bytes ns) (counts_bytes ys))

counts_one : (n : ℕ) → counts_bytes (n ∷ []) ≡ count_bytes n
unfolding counts_bytes
counts_one n = append-nil (count_bytes n)

pub counts_more : (have : List ℕ) (i d : ℕ) → i < length have → counts_bytes (take (i + 1) have) ≡ counts_bytes (take i have) ++ count_bytes (get_or have i d)
counts_more have i d lt = ap counts_bytes (take_more have i d lt) ∙ counts-append (take i have) (get_or have i d ∷ []) ∙ ap (λ (t : List ℕ). counts_bytes (take i have) ++ t) (counts_one (get_or have i d))

pub counts_room : (have : List ℕ) (i d : ℕ) → i < length have → length (counts_bytes (take i have)) + length (count_bytes (get_or have i d)) ≤ length (counts_bytes have)
counts_room have i d lt =
    let whole : counts_bytes have ≡ (counts_bytes (take i have) ++ count_bytes (get_or have i d)) ++ counts_bytes (drop (i + 1) have) =
    ap counts_bytes (sym (take-append-drop (i + 1) have)) ∙ counts-append (take (i + 1) have) (drop (i + 1) have) ∙ ap (λ (t : List ℕ). t ++ counts_bytes (drop (i + 1) have)) (counts_more have i d lt) in
    let long = ap (λ (t : List ℕ). length t) whole in
    omega (arith, long, length-append (counts_bytes (take i have) ++ count_bytes (get_or have i d)) (counts_bytes (drop (i + 1) have)), length-append (counts_bytes (take i have)) (count_bytes (get_or have i d)))

pub mask_step : (have : List ℕ) (i d : ℕ) → i < length have → mask_of (drop i have) ≡ bit_of (get_or have i d) + 2 * mask_of (drop (i + 1) have)
unfolding mask_of
mask_step have i d lt = ap mask_of (drop_more have i d lt)

pub mask_room : (have : List ℕ) (i : ℕ) → i < length have → length have ≤ 64 → 2 * mask_of (drop (i + 1) have) + 1 < 2 ^ 64
mask_room have i lt le =
    let below = mask_below (drop (i + 1) have) in
    let len = length-drop (i + 1) have in
    let power : 2 ^ length (drop (i + 1) have) ≤ 2 ^ 63 = pow-le-pow_right {n = 2} (omega arith) {i = length (drop (i + 1) have)} {j = 63} (omega (arith, len, lt, le)) in
    omega (arith, below, power)

pub mask_none : (have : List ℕ) → 0 ≡ mask_of (drop (length have) have)
unfolding mask_of
mask_none have = sym (ap mask_of (drop_all (length have) have (omega arith)))

pub mask_fits : (have : List ℕ) (k m : ℕ) → 0 < k → k ≤ length have → length have ≤ 64 → m ≡ mask_of (drop k have) → 2 * m + 1 < 2 ^ 64
mask_fits have k m some within le is =
    let i : (k - 1) + 1 ≡ k = omega arith in
    let room = mask_room have (k - 1) (omega arith) le in
    let same : mask_of (drop ((k - 1) + 1) have) ≡ m = rw i (sym is) in
    omega (arith, room, same)

pub mask_after : (have : List ℕ) (k m d : ℕ) → 0 < k → k ≤ length have → m ≡ mask_of (drop k have) → 2 * m + bit_of (get_or have (k - 1) d) ≡ mask_of (drop (k - 1) have)
mask_after have k m d some within is =
    let i : (k - 1) + 1 ≡ k = omega arith in
    let step = mask_step have (k - 1) d (omega arith) in
    let same : mask_of (drop ((k - 1) + 1) have) ≡ m = rw i (sym is) in
    omega (arith, step, same)
