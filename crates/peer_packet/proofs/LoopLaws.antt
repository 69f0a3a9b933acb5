-- Reading one after the other, as loops do.
use Rattle.std.proofs.Common.{◌≡◌, ℕ, zero, suc, ◌-◌, ◌+◌, ◌≤◌, ◌<◌, ◌%◌, ◌/◌, Bool, true, false, eqb, List, [], ◌∷◌, ◌++◌, length, Result, Ok, Err, refl, sym, ap, ◌∙◌, append_assoc, arith}
use Rattle.std.specs.Prelude.{IfOk, IfErr}
use Rattle.std.proofs.lemmas.Bool.{eqb-true, eqb-false}
use Rattle.std.proofs.lemmas.List.{append-nil}
use Rattle.tss_io.specs.Reading.{Answers}
use Rattle.tss_io.specs.Results.{◌>>=◌}
use Rattle.tss_io.proofs.Results.{ok_is}
use Rattle.peer_packet.specs.declared.fault.Fault.{Fault}
use Rattle.peer_packet.specs.declared.fault.Fault.TheVariants as faults
use Rattle.peer_packet.specs.declared.part.PartHead.{PartHead}
use Rattle.peer_packet.specs.Packet.{Sent, Part}
use Rattle.peer_packet.specs.Reading.{sent_at, sents_at, part_at, parts_at, count_at, counts_at, behind, passed, ended}

-- ---- commands

behind_more : (r : Result (List Sent × List ℕ) Fault) (c : Sent) → behind (r >>= λ more. Ok (c ∷ more.0, more.1)) ≡ behind r
behind_more (Ok x) c = refl
behind_more (Err f) c = refl

pub sents_on : (payload count i last : ℕ) (bytes : List ℕ) (c : Sent) (after : List ℕ) (total : Result (List ℕ) Fault) → i < count → sent_at payload last bytes ≡ Ok (c, after)
    → behind (sents_at payload (count - i) last bytes) ≡ total → behind (sents_at payload (count - (i + 1)) c.time after) ≡ total
unfolding sents_at
sents_on payload count i last bytes c after total lt h so_far =
    let k : count - i ≡ suc (count - (i + 1)) = omega arith in
    let one : behind (sents_at payload (count - i) last bytes) ≡ behind (sents_at payload (count - (i + 1)) c.time after) = rw (k, h) (behind_more (sents_at payload (count - (i + 1)) c.time after) c) in
    sym one ∙ so_far

pub sents_stop : (payload count i last : ℕ) (bytes : List ℕ) (f : Fault) (total : Result (List ℕ) Fault) → i < count → sent_at payload last bytes ≡ Err f
    → behind (sents_at payload (count - i) last bytes) ≡ total → total ≡ Err f
unfolding sents_at
sents_stop payload count i last bytes f total lt h so_far =
    let k : count - i ≡ suc (count - (i + 1)) = omega arith in
    let one : behind (sents_at payload (count - i) last bytes) ≡ Err f = rw (k, h) refl in
    sym so_far ∙ one

pub sents_done : (payload count i last : ℕ) (bytes : List ℕ) (total : Result (List ℕ) Fault) → count ≤ i → behind (sents_at payload (count - i) last bytes) ≡ total → total ≡ Ok bytes
unfolding sents_at
sents_done payload count i last bytes total le so_far =
    let k : count - i ≡ 0 = omega arith in
    let one : behind (sents_at payload (count - i) last bytes) ≡ Ok bytes = rw k refl in
    sym so_far ∙ one

-- ---- parts

ended_more : (r : Result (List Part) Fault) (p : Part) → ended (r >>= λ more. Ok (p ∷ more)) ≡ ended r
ended_more (Ok x) p = refl
ended_more (Err f) p = refl

part_then : (test : ℕ → PartHead → Bool) (payload most : ℕ) (r : Result (Part × List ℕ) Fault) (origin : ℕ) (after : List ℕ) → passed r ≡ Ok (origin, after)
    → ended (r >>= λ part. parts_at test payload (part.0.origin + 1) most part.1 >>= λ more. Ok (part.0 ∷ more)) ≡ ended (parts_at test payload (origin + 1) most after)
part_then test payload most (Ok x) origin after h =
    ended_more (parts_at test payload (x.0.origin + 1) most x.1) x.0
    ∙ ap (λ (y : ℕ × List ℕ). ended (parts_at test payload (y.0 + 1) most y.1)) (ok_is (x.0.origin, x.1) (origin, after) h)
part_then test payload most (Err f) origin after h = absurd cc

part_stops : (test : ℕ → PartHead → Bool) (payload most : ℕ) (r : Result (Part × List ℕ) Fault) (f : Fault) → passed r ≡ Err f
    → ended (r >>= λ part. parts_at test payload (part.0.origin + 1) most part.1 >>= λ more. Ok (part.0 ∷ more)) ≡ Err f
part_stops test payload most (Ok x) f h = absurd cc
part_stops test payload most (Err g) f h = cc

pub parts_on : (test : ℕ → PartHead → Bool) (payload least slots i : ℕ) (bytes : List ℕ) (origin : ℕ) (after : List ℕ) (total : Result (Unit {0}) Fault) → i < slots → (length bytes ≡ 0 → ⊥)
    → passed (part_at (test least) payload bytes) ≡ Ok (origin, after)
    → ended (parts_at test payload least (slots - i) bytes) ≡ total → ended (parts_at test payload (origin + 1) (slots - (i + 1)) after) ≡ total
unfolding parts_at
parts_on test payload least slots i [] origin after total lt some h so_far = absurd (some refl)
parts_on test payload least slots i (b ∷ bytes) origin after total lt some h so_far =
    let k : slots - i ≡ suc (slots - (i + 1)) = omega arith in
    let one : ended (parts_at test payload least (slots - i) (b ∷ bytes)) ≡ ended (parts_at test payload (origin + 1) (slots - (i + 1)) after) = rw k (part_then test payload (slots - (i + 1)) (part_at (test least) payload (b ∷ bytes)) origin after h) in
    sym one ∙ so_far

pub parts_stop : (test : ℕ → PartHead → Bool) (payload least slots i : ℕ) (bytes : List ℕ) (f : Fault) (total : Result (Unit {0}) Fault) → i < slots → (length bytes ≡ 0 → ⊥)
    → passed (part_at (test least) payload bytes) ≡ Err f
    → ended (parts_at test payload least (slots - i) bytes) ≡ total → total ≡ Err f
unfolding parts_at
parts_stop test payload least slots i [] f total lt some h so_far = absurd (some refl)
parts_stop test payload least slots i (b ∷ bytes) f total lt some h so_far =
    let k : slots - i ≡ suc (slots - (i + 1)) = omega arith in
    let one : ended (parts_at test payload least (slots - i) (b ∷ bytes)) ≡ Err f = rw k (part_stops test payload (slots - (i + 1)) (part_at (test least) payload (b ∷ bytes)) f h) in
    sym so_far ∙ one

no_parts : (test : ℕ → PartHead → Bool) (payload least most : ℕ) → ended (parts_at test payload least most []) ≡ Ok tt
unfolding parts_at
no_parts test payload least zero = refl
no_parts test payload least (suc most) = refl

pub parts_end : (test : ℕ → PartHead → Bool) (payload least most : ℕ) (bytes : List ℕ) (total : Result (Unit {0}) Fault) → length bytes ≡ 0 → ended (parts_at test payload least most bytes) ≡ total → total ≡ Ok tt
parts_end test payload least most [] total none so_far = sym so_far ∙ no_parts test payload least most
parts_end test payload least most (b ∷ bytes) total none so_far = absurd omega (arith, none)

pub parts_over : (test : ℕ → PartHead → Bool) (payload least slots i : ℕ) (bytes : List ℕ) (total : Result (Unit {0}) Fault) → slots ≤ i → (length bytes ≡ 0 → ⊥) → ended (parts_at test payload least (slots - i) bytes) ≡ total → total ≡ Err faults.Part
unfolding parts_at
parts_over test payload least slots i [] total le some so_far = absurd (some refl)
parts_over test payload least slots i (b ∷ bytes) total le some so_far =
    let k : slots - i ≡ 0 = omega arith in
    let one : ended (parts_at test payload least (slots - i) (b ∷ bytes)) ≡ Err faults.Part = rw k refl in
    sym so_far ∙ one

pub parts_checked : (test : ℕ → PartHead → Bool) (payload least slots i : ℕ) (bytes : List ℕ) (total : Result (Unit {0}) Fault) (b : Bool) (r : Result (Unit {0}) Fault) → b ≡ eqb (length bytes) 0 → slots ≤ i
    → IfOk r (λ _. b ≡ true) → IfErr r (λ e. (e ≡ faults.Part) × (b ≡ false))
    → ended (parts_at test payload least (slots - i) bytes) ≡ total → Answers (λ _. tt) r total
parts_checked test payload least slots i bytes total b (Ok u) is le ok err so_far = parts_end test payload least (slots - i) bytes total (eqb-true (length bytes) 0 (sym is ∙ ok)) so_far
parts_checked test payload least slots i bytes total b (Err e) is le ok err so_far = parts_over test payload least slots i bytes total le (eqb-false (length bytes) 0 (sym is ∙ err.1)) so_far ∙ ap (λ (f : Fault). Err f) (sym err.0)

-- ---- counts

abbrev pub with_front : List ℕ → Result (List ℕ × List ℕ) Fault → Result (List ℕ × List ℕ) Fault
with_front front read = read >>= λ x. Ok (front ++ x.0, x.1)

regroup : (front : List ℕ) (n : ℕ) (read : Result (List ℕ × List ℕ) Fault) → with_front front (read >>= λ x. Ok (n ∷ x.0, x.1)) ≡ with_front (front ++ n ∷ []) read
regroup front n (Ok x) = ap (λ (ns : List ℕ). Ok (ns, x.1)) (simp append_assoc)
regroup front n (Err f) = refl

pub counts_on : (front : List ℕ) (slots i mask : ℕ) (bytes : List ℕ) (n : ℕ) (after : List ℕ) (total : Result (List ℕ × List ℕ) Fault) → i < slots → count_at (eqb (mask % 2) 1) bytes ≡ Ok (n, after)
    → with_front front (counts_at (slots - i) mask bytes) ≡ total → with_front (front ++ n ∷ []) (counts_at (slots - (i + 1)) (mask / 2) after) ≡ total
unfolding counts_at
counts_on front slots i mask bytes n after total lt h so_far =
    let k : slots - i ≡ suc (slots - (i + 1)) = omega arith in
    let one : with_front front (counts_at (slots - i) mask bytes) ≡ with_front (front ++ n ∷ []) (counts_at (slots - (i + 1)) (mask / 2) after) = rw (k, h) (regroup front n (counts_at (slots - (i + 1)) (mask / 2) after)) in
    sym one ∙ so_far

pub counts_stop : (front : List ℕ) (slots i mask : ℕ) (bytes : List ℕ) (f : Fault) (total : Result (List ℕ × List ℕ) Fault) → i < slots → count_at (eqb (mask % 2) 1) bytes ≡ Err f
    → with_front front (counts_at (slots - i) mask bytes) ≡ total → total ≡ Err f
unfolding counts_at
counts_stop front slots i mask bytes f total lt h so_far =
    let k : slots - i ≡ suc (slots - (i + 1)) = omega arith in
    let one : with_front front (counts_at (slots - i) mask bytes) ≡ Err f = rw (k, h) refl in
    sym so_far ∙ one

pub counts_done : (front : List ℕ) (slots i mask : ℕ) (bytes : List ℕ) (total : Result (List ℕ × List ℕ) Fault) → slots ≤ i → eqb mask 0 ≡ true → with_front front (counts_at (slots - i) mask bytes) ≡ total → total ≡ Ok (front, bytes)
unfolding counts_at
counts_done front slots i mask bytes total le none so_far =
    let k : slots - i ≡ 0 = omega arith in
    let one : with_front front (counts_at (slots - i) mask bytes) ≡ Ok (front, bytes) = rw (k, none) (ap (λ (ns : List ℕ). Ok (ns, bytes)) (append-nil front)) in
    sym so_far ∙ one

pub counts_over : (front : List ℕ) (slots i mask : ℕ) (bytes : List ℕ) (total : Result (List ℕ × List ℕ) Fault) → slots ≤ i → eqb mask 0 ≡ false → with_front front (counts_at (slots - i) mask bytes) ≡ total → total ≡ Err faults.Vector
unfolding counts_at
counts_over front slots i mask bytes total le some so_far =
    let k : slots - i ≡ 0 = omega arith in
    let one : with_front front (counts_at (slots - i) mask bytes) ≡ Err faults.Vector = rw (k, some) refl in
    sym so_far ∙ one
