-- What waits behind a cursor is what wasn't put before.
use Rattle.std.proofs.Common.{◌≡◌, ◌∙◌, ap, sym, subst, ℕ, zero, suc, ◌+◌, ◌-◌, ◌≤◌, ◌<◌, ◌⊎◌, inl, inr, true, false, not, ◌&&◌, ◌||◌, ◌==◌, List, [], ◌∷◌, ◌++◌, length, drop, refl, arith}
use Rattle.std.specs.Prelude.{nat_lt}
use Rattle.std.specs.List.{filter}
use Rattle.std.proofs.lemmas.Bool.Decides.{nat_tests}
use Rattle.std.proofs.lemmas.List.{length-drop}
use Rattle.std.proofs.lemmas.List.Elements.{filter-append}
use Rattle.std.proofs.lemmas.List.Concat.{flat_map-cons}
use Rattle.peer_packet.specs.Packet.{Sent, Part}
use Rattle.peer_packet.specs.declared.cursor.Cursor.{Cursor}
use Rattle.peer_packet.specs.Filling.{behind_cursor, later_part, or_all, from_cursor}
use Rattle.peer_packet.proofs.Goes.{Rises}
use Rattle.peer_packet.proofs.Cursors.{Waits, cases}
use Rattle.peer_laws.specs.Waiting.{Named, named_from, named_in, named_of, all_named, is_before, not_before, IsRest}

-- ---- one command

-- it stands at the cursor or behind it
abbrev pub IsBehind : Cursor → ℕ → ℕ → Type 0
IsBehind c o n = (c.slot < o) ⊎ ((c.slot ≡ o) × (c.number ≤ n))

stays : (c : Cursor) (o n : ℕ) → IsBehind c o n → not (nat_lt o c.slot || ((o == c.slot) && nat_lt n c.number)) ≡ true
stays c o n (inl a) = grind (arith, nat_tests)
stays c o n (inr b) = (let same = b.0 in let at = b.1 in grind (arith, nat_tests))

goes : (c : Cursor) (o n : ℕ) → c.slot ≡ o → n < c.number → not (nat_lt o c.slot || ((o == c.slot) && nat_lt n c.number)) ≡ false
goes c o n same less = grind (arith, nat_tests)

goes_below : (c : Cursor) (o n : ℕ) → o < c.slot → not (nat_lt o c.slot || ((o == c.slot) && nat_lt n c.number)) ≡ false
goes_below c o n less = grind (arith, nat_tests)

abbrev kept : Cursor → List Named → List Named
kept c xs = filter (λ x. not (is_before c x)) xs

-- ---- the commands of a part

behind_more : (c : Cursor) (o n : ℕ) → IsBehind c o n → IsBehind c o (suc n)
behind_more c o n (inl a) = inl a
behind_more c o n (inr b) = (let at = b.1 in inr (b.0, omega arith))

keep-from : (c : Cursor) (o n : ℕ) (cs : List Sent) → IsBehind c o n → kept c (named_from o n cs) ≡ named_from o n cs
unfolding named_from
keep-from c o n [] h = refl
keep-from c o n (x ∷ cs) h =
    let e = stays c o n h in
    let more = keep-from c o (suc n) cs (behind_more c o n h) in
    rw (e, more) refl

keep-in : (c : Cursor) (o n : ℕ) (cs : List Sent) → IsBehind c o n → kept c (named_in o n cs) ≡ named_in o n cs
keep-in c o n [] h = (let e = stays c o n h in rw e refl)
keep-in c o n (x ∷ cs) h =
    let e = stays c o n h in
    let more = keep-from c o (suc n) cs (behind_more c o n h) in
    rw (e, more) refl

none-from : (c : Cursor) (o n : ℕ) (cs : List Sent) → o < c.slot → kept c (named_from o n cs) ≡ []
unfolding named_from
none-from c o n [] less = refl
none-from c o n (x ∷ cs) less =
    let e = goes_below c o n less in
    let more = none-from c o (suc n) cs less in
    rw e more

none-in : (c : Cursor) (o n : ℕ) (cs : List Sent) → o < c.slot → kept c (named_in o n cs) ≡ []
none-in c o n [] less = (let e = goes_below c o n less in rw e refl)
none-in c o n (x ∷ cs) less =
    let e = goes_below c o n less in
    let more = none-from c o (suc n) cs less in
    rw e more

-- the first k are before it
drop-from : (c : Cursor) (o n k m : ℕ) (cs : List Sent) → c.slot ≡ o → c.number ≡ n + k → m ≡ n + k → kept c (named_from o n cs) ≡ named_from o m (drop k cs)
unfolding named_from
drop-from c o n zero m cs same at is =
    keep-from c o n cs (inr (same, omega arith)) ∙ ap (λ (l : ℕ). named_from o l cs) (let e : n ≡ m = omega arith in e)
drop-from c o n (suc k) m [] same at is = refl
drop-from c o n (suc k) m (x ∷ cs) same at is =
    let e = goes c o n same (omega arith) in
    let more = drop-from c o (suc n) k m cs same (omega arith) (omega arith) in
    rw e more

from-in : (o n : ℕ) (cs : List Sent) → 0 < length cs → named_from o n cs ≡ named_in o n cs
unfolding named_from
from-in o n [] some = absurd (omega arith)
from-in o n (x ∷ cs) some = refl

none-left : (o m k : ℕ) (cs : List Sent) → length cs ≤ k → named_from o m (drop k cs) ≡ []
unfolding named_from
none-left o m zero [] le = refl
none-left o m zero (x ∷ cs) le = absurd (omega arith)
none-left o m (suc k) [] le = refl
none-left o m (suc k) (x ∷ cs) le = none-left o m k cs (omega arith)

past-in : (c : Cursor) (o n : ℕ) (cs : List Sent) → c.slot ≡ o → n < c.number → n + length cs ≤ c.number → kept c (named_in o n cs) ≡ []
past-in c o n [] same behind end = (let e = goes c o n same behind in rw e refl)
past-in c o n (x ∷ cs) same behind end =
    ap (kept c) (sym (from-in o n (x ∷ cs) (omega arith)))
    ∙ drop-from c o n (c.number - n) c.number (x ∷ cs) same (omega arith) (omega arith)
    ∙ none-left o c.number (c.number - n) (x ∷ cs) (omega arith)

within-in : (c : Cursor) (o n : ℕ) (cs : List Sent) → c.slot ≡ o → n < c.number → c.number < n + length cs
    → kept c (named_in o n cs) ≡ named_in o (n + (c.number - n)) (drop (c.number - n) cs)
within-in c o n cs same behind end =
    let long = length-drop (c.number - n) cs in
    ap (kept c) (sym (from-in o n cs (omega arith)))
    ∙ drop-from c o n (c.number - n) (n + (c.number - n)) cs same (omega arith) refl
    ∙ from-in o (n + (c.number - n)) (drop (c.number - n) cs) (omega arith)

-- ---- parts

kept-parts : (c : Cursor) (p : Part) (ps : List Part) → kept c (all_named (p ∷ ps)) ≡ kept c (named_of p) ++ kept c (all_named ps)
kept-parts c p ps =
    ap (kept c) (flat_map-cons named_of p ps) ∙ filter-append (λ x. not (is_before c x)) (named_of p) (all_named ps)

above-kept : (c : Cursor) (least : ℕ) (ps : List Part) → c.slot < least → Rises least ps → kept c (all_named ps) ≡ all_named ps
unfolding Rises
above-kept c least [] less h = refl
above-kept c least (p ∷ ps) less h =
    let up = h.0 in
    kept-parts c p ps
    ∙ ap (λ (l : List Named). l ++ kept c (all_named ps)) (keep-in c p.origin p.first p.commands (inl (omega arith)))
    ∙ ap (λ (l : List Named). named_of p ++ l) (above-kept c (p.origin + 1) ps (omega arith) h.1)
    ∙ sym (flat_map-cons named_of p ps)

pub behind-kept : (c : Cursor) (least : ℕ) (ps : List Part) → Rises least ps → all_named (behind_cursor c ps) ≡ kept c (all_named ps)
unfolding behind_cursor Rises Waits
behind-kept c least [] h = refl
behind-kept c least (p ∷ ps) h =
    let rest = kept c (all_named ps) in
    cases (λ l. all_named l ≡ kept c (all_named (p ∷ ps))) c p ps
    (λ below. behind-kept c (p.origin + 1) ps h.1 ∙ sym (kept-parts c p ps ∙ ap (λ (l : List Named). l ++ rest) (none-in c p.origin p.first p.commands below)))
    (λ w. sym (kept-parts c p ps ∙ ap (λ (l : List Named). l ++ rest) (keep-in c p.origin p.first p.commands w)
    ∙ ap (λ (l : List Named). named_of p ++ l) (above-kept c (p.origin + 1) ps (elim w [ inl a ↦ omega arith | inr b ↦ (let same = b.0 in omega arith) ]) h.1)
    ∙ sym (flat_map-cons named_of p ps)))
    (λ same behind end. sym (kept-parts c p ps ∙ ap (λ (l : List Named). l ++ rest) (past-in c p.origin p.first p.commands same behind end)
    ∙ above-kept c (p.origin + 1) ps (omega arith) h.1))
    (λ same behind end. sym (kept-parts c p ps ∙ ap (λ (l : List Named). l ++ rest) (within-in c p.origin p.first p.commands same behind end)
    ∙ ap (λ (l : List Named). named_of (later_part (c.number - p.first) p) ++ l) (above-kept c (p.origin + 1) ps (omega arith) h.1)
    ∙ sym (flat_map-cons named_of (later_part (c.number - p.first) p) ps)))

rest-some : (o n : ℕ) (cs : List Sent) (xs : List Named) (due waits : List Part) → all_named waits ≡ named_in o n cs ++ xs → IsRest (named_in o n cs ++ xs) due waits
rest-some o n [] xs due waits e = e
rest-some o n (c ∷ cs) xs due waits e = e

rest-is : (due waits : List Part) → IsRest (all_named waits) due (or_all due waits)
rest-is due [] = refl
rest-is due (p ∷ ps) =
    let e = flat_map-cons named_of p ps in
    subst (λ (l : List Named). IsRest l due (p ∷ ps)) (sym e) (rest-some p.origin p.first p.commands (all_named ps) due (p ∷ ps) e)

pub rest-waits : (c : Cursor) (due : List Part) → Rises 0 due → IsRest (not_before c due) due (from_cursor c due)
rest-waits c due h =
    subst (λ (l : List Named). IsRest l due (from_cursor c due)) (behind-kept c 0 due h) (rest-is due (behind_cursor c due))
