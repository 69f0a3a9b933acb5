-- Commands both ways.
use Rattle.std.proofs.Common.{◌≡◌, ℕ, zero, suc, ◌^◌, ◌≤◌, true, ◌&&◌, List, [], ◌∷◌, ◌++◌, length, Ok, refl, sym, ap, subst, ◌∙◌, append_assoc, arith}
use Rattle.std.specs.Prelude.{nat_le}
use Rattle.std.specs.Int.{w32, to_le_bytes}
use Rattle.std.specs.List.{flat_map}
use Rattle.std.proofs.lemmas.Bool.{leb-true, le-leb, and_parts, and_from}
use Rattle.std.proofs.lemmas.List.Concat.{flat_map-cons}
use Rattle.tss_io.proofs.Results.{bind_ok, ok_is}
use Rattle.peer_packet.specs.declared.fault.Fault.TheVariants as faults
use Rattle.peer_packet.specs.Packet.{Sent, sent_bytes, IsSent, AreSent}
use Rattle.peer_packet.specs.Reading.{sent_at, sents_at}
use Rattle.peer_packet.proofs.FieldLaws.{IsBytes, Takes, Takes-then, check_ok, byte_takes, wide32, number_takes, number_again, piece_takes, piece_again}

sent_takes : (payload before : ℕ) (bytes : List ℕ) (x : Sent × List ℕ) → IsBytes bytes → sent_at payload before bytes ≡ Ok x → Takes bytes (sent_bytes x.0) x.1 × IsSent payload before x.0
unfolding sent_at
sent_takes payload before bytes x fits e =
    let a = bind_ok _ _ _ e in
    let b = bind_ok _ _ _ a.2 in
    let c = bind_ok _ _ _ b.2 in
    let d = bind_ok _ _ _ c.2 in
    let t0 = number_takes w32 (2 ^ 32) wide32 faults.Command bytes a.0.0 a.0.1 fits a.1 in
    let t1 = byte_takes faults.Command a.0.1 b.0.0 b.0.1 t0.0.rest_fits b.1 in
    let t2 = piece_takes b.0.0 faults.Command b.0.1 d.0.0 d.0.1 t1.rest_fits d.1 in
    let right = check_ok (nat_le before a.0.0 && nat_le b.0.0 payload) faults.Command c.0 c.1 in
    let e12 = Takes-then a.0.1 (b.0.0 ∷ []) b.0.1 d.0.0 d.0.1 t1 t2.0 in
    let e02 = Takes-then bytes (to_le_bytes w32 a.0.0) a.0.1 (b.0.0 ∷ d.0.0) d.0.1 t0.0 e12 in
    let made : Sent × List ℕ = (record { time = a.0.0; payload = d.0.0 }, d.0.1) in
    let whole : Takes bytes (sent_bytes made.0) made.1 = subst (λ (n : ℕ). Takes bytes (to_le_bytes w32 a.0.0 ++ n ∷ d.0.0) d.0.1) (sym t2.1) e02 in
    let follows : (nat_le before a.0.0 && nat_le (length d.0.0) payload) ≡ true = rw t2.1 right in
    subst (λ (y : Sent × List ℕ). Takes bytes (sent_bytes y.0) y.1 × IsSent payload before y.0) (ok_is made x d.2) (whole, record { time = t0.1; follows = follows })

sent_again : (payload before : ℕ) (c : Sent) (rest : List ℕ) → IsSent payload before c → sent_at payload before (sent_bytes c ++ rest) ≡ Ok (c, rest)
unfolding sent_at
sent_again payload before c rest fits =
    let regrouped : sent_bytes c ++ rest ≡ to_le_bytes w32 c.time ++ (length c.payload ∷ (c.payload ++ rest)) = append_assoc (to_le_bytes w32 c.time) (length c.payload ∷ c.payload) rest in
    ap (sent_at payload before) regrouped ∙ rw (number_again w32 (2 ^ 32) wide32 faults.Command c.time (length c.payload ∷ (c.payload ++ rest)) fits.time, fits.follows, piece_again faults.Command c.payload rest) refl

pub sents_take : (payload count before : ℕ) (bytes : List ℕ) (x : List Sent × List ℕ) → IsBytes bytes → sents_at payload count before bytes ≡ Ok x → Takes bytes (flat_map sent_bytes x.0) x.1 × (length x.0 ≡ count) × AreSent payload before x.0
unfolding sents_at
sents_take payload zero before bytes x fits e =
    subst (λ (y : List Sent × List ℕ). Takes bytes (flat_map sent_bytes y.0) y.1 × (length y.0 ≡ 0) × AreSent payload before y.0) (ok_is ([], bytes) x e) (record { parts = refl; rest_fits = fits }, refl, tt)
sents_take payload (suc count) before bytes x fits e =
    let a = bind_ok _ _ _ e in
    let b = bind_ok _ _ _ a.2 in
    let first = sent_takes payload before bytes a.0 fits a.1 in
    let second = sents_take payload count a.0.0.time a.0.1 b.0 first.0.rest_fits b.1 in
    let both = Takes-then bytes (sent_bytes a.0.0) a.0.1 (flat_map sent_bytes b.0.0) b.0.1 first.0 second.0 in
    let made : List Sent × List ℕ = (a.0.0 ∷ b.0.0, b.0.1) in
    subst (λ (y : List Sent × List ℕ). Takes bytes (flat_map sent_bytes y.0) y.1 × (length y.0 ≡ suc count) × AreSent payload before y.0) (ok_is made x b.2) (rw flat_map-cons both, ap suc second.1, (first.1, second.2))

pub sents_again : (payload before : ℕ) (cs : List Sent) (rest : List ℕ) → AreSent payload before cs → sents_at payload (length cs) before (flat_map sent_bytes cs ++ rest) ≡ Ok (cs, rest)
unfolding sents_at
sents_again payload before [] rest fits = refl
sents_again payload before (c ∷ cs) rest fits =
    let regrouped : flat_map sent_bytes (c ∷ cs) ++ rest ≡ sent_bytes c ++ (flat_map sent_bytes cs ++ rest) = ap (λ (x : List ℕ). x ++ rest) (flat_map-cons sent_bytes c cs) ∙ append_assoc (sent_bytes c) (flat_map sent_bytes cs) rest in
    ap (sents_at payload (suc (length cs)) before) regrouped ∙ rw (sent_again payload before c (flat_map sent_bytes cs ++ rest) fits.0, sents_again payload c.time cs rest fits.1) refl

-- wider bounds
pub AreSent-wider : (payload most before least : ℕ) (cs : List Sent) → payload ≤ most → least ≤ before → AreSent payload before cs → AreSent most least cs
AreSent-wider payload most before least [] p l fits = tt
AreSent-wider payload most before least (c ∷ cs) p l fits =
    let two = and_parts _ _ fits.0.follows in
    let late = leb-true before c.time two.0 in
    let short = leb-true (length c.payload) payload two.1 in (
      record { time = fits.0.time; follows = and_from _ _ (le-leb least c.time (omega arith)) (le-leb (length c.payload) most (omega arith)) },
      AreSent-wider payload most c.time c.time cs p (omega arith) fits.1,
    )
