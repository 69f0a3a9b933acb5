-- Each packet with room for a part goes on, until all that is due was put.
use Rattle.std.proofs.Common.{◌≡◌, ℕ, suc, ◌+◌, ◌-◌, ◌≤◌, ◌<◌, ◌⊎◌, inl, inr, true, false, cond, ◌&&◌, ◌||◌, ◌==◌, List, [], ◌∷◌, length, refl, ap, arith}
use Rattle.std.specs.Prelude.{nat_le, nat_lt}
use Rattle.std.proofs.lemmas.Bool.{and_parts, or_parts, leb-true, le-leb, lt-leb, ltb-true, lt-ltb, le-ltb}
use Rattle.std.proofs.lemmas.Bool.Decides.{nat_tests}
use Rattle.std.proofs.lemmas.List.{length-drop}
use Rattle.peer_packet.specs.Packet.{Sent, Part, part_bytes, AreSent}
use Rattle.peer_packet.specs.declared.cursor.Cursor.{Cursor}
use Rattle.peer_packet.specs.Filling.{Filled, at_start, first_part, behind_cursor, fitting, ends_before, filled, weight}

-- origins rise, from this one on
unfoldable pub Rises : ℕ → List Part → Type 0
Rises least [] = Unit {0}
Rises least (p ∷ ps) = (least ≤ p.origin) × Rises (p.origin + 1) ps

-- all was put, or less waits behind the cursor
abbrev pub GoesOn : ℕ → List Part → Filled → Type 0
GoesOn least ps f = ((f.parts ≡ ps) × (f.cursor ≡ at_start)) ⊎ ((least ≤ f.cursor.slot) × (weight (behind_cursor f.cursor ps) ≤ weight ps))

-- behind a number of the first part
at-part : (p : Part) (ps : List Part) (k : ℕ) → k < length p.commands → weight (behind_cursor (record { slot = p.origin; number = p.first + k }) (p ∷ ps)) + k ≤ weight (p ∷ ps)
unfolding behind_cursor weight
at-part p ps k less =
    let same : nat_lt p.origin p.origin ≡ false = le-ltb p.origin p.origin (omega arith) in
    let above : nat_le (p.first + length p.commands) (p.first + k) ≡ false = lt-leb (p.first + length p.commands) (p.first + k) (omega arith) in
    let back : (p.first + k) - p.first ≡ k = omega arith in
    let rest = length-drop ((p.first + k) - p.first) p.commands in
    elim (nat_le (p.first + k) p.first) as (λ v. nat_le (p.first + k) p.first ≡ v → weight (behind_cursor (record { slot = p.origin; number = p.first + k }) (p ∷ ps)) + k ≤ weight (p ∷ ps)) [
      | true ↦ λ e. (let none = leb-true (p.first + k) p.first e in rw (same, e) (omega arith))
      | false ↦ λ e. rw (same, e, above) (omega arith)
    ]
    refl

-- at the first part's begin
at-first : (p : Part) (ps : List Part) → behind_cursor (record { slot = p.origin; number = p.first }) (p ∷ ps) ≡ p ∷ ps
unfolding behind_cursor
at-first p ps =
    let same : nat_lt p.origin p.origin ≡ false = le-ltb p.origin p.origin (omega arith) in
    let here : nat_le p.first p.first ≡ true = le-leb p.first p.first (omega arith) in
    rw (same, here) refl

-- behind the first part
past-first : (c : Cursor) (p : Part) (ps : List Part) → p.origin < c.slot → behind_cursor c (p ∷ ps) ≡ behind_cursor c ps
unfolding behind_cursor
past-first c p ps less = (let e : nat_lt p.origin c.slot ≡ true = lt-ltb p.origin c.slot less in rw e refl)

whole-part : (least room : ℕ) (p : Part) (ps : List Part) (f : Filled) → least ≤ p.origin → GoesOn (p.origin + 1) ps f
    → (((p ∷ f.parts) ≡ (p ∷ ps)) × (f.cursor ≡ at_start)) ⊎ ((least ≤ f.cursor.slot) × (weight (behind_cursor f.cursor (p ∷ ps)) < weight (p ∷ ps)))
unfolding weight
whole-part least room p ps f le (inl all) = inl (ap (λ (l : List Part). p ∷ l) all.0, all.1)
whole-part least room p ps f le (inr more) =
    let slot = more.0 in
    let less = more.1 in
    let same = ap weight (past-first f.cursor p ps (omega arith)) in
    inr (omega arith, omega arith)

weaker : (least : ℕ) (ps : List Part) (f : Filled) → (((f.parts) ≡ ps) × (f.cursor ≡ at_start)) ⊎ ((least ≤ f.cursor.slot) × (weight (behind_cursor f.cursor ps) < weight ps)) → GoesOn least ps f
weaker least ps f (inl all) = inl all
weaker least ps f (inr more) = (let less = more.1 in inr (more.0, omega arith))

without : {A B C : Type 0} → A ⊎ (B × C) → A ⊎ C
without (inl a) = inl a
without (inr b) = inr b.1

pub filled-goes : (room least : ℕ) (ps : List Part) → Rises least ps → GoesOn least ps (filled room ps)
unfolding filled Rises
filled-goes room least [] h = inl (refl, refl)
filled-goes room least (p ∷ ps) h =
    let fit = fitting (room - 11) p.commands in
    let stop : Filled = record { parts = []; cursor = record { slot = p.origin; number = p.first } } in
    let short : Filled = record { parts = first_part fit p ∷ []; cursor = record { slot = p.origin; number = p.first + fit } } in
    let more = filled (room - length (part_bytes p)) ps in
    let whole : Filled = record { parts = p ∷ more.parts; cursor = more.cursor } in
    elim (ends_before room p) as (λ v. GoesOn least (p ∷ ps) (cond v stop (cond (nat_lt fit (length p.commands)) short whole))) [
      | true ↦ (let same = ap weight (at-first p ps) in inr (h.0, omega arith))
      | false ↦ elim (nat_lt fit (length p.commands)) as (λ v. nat_lt fit (length p.commands) ≡ v → GoesOn least (p ∷ ps) (cond v short whole)) [
        | true ↦ λ e. (let less = at-part p ps fit (ltb-true fit (length p.commands) e) in inr (h.0, omega arith))
        | false ↦ λ e. weaker least (p ∷ ps) whole (whole-part least room p ps more h.0 (filled-goes (room - length (part_bytes p)) (p.origin + 1) ps h.1))
      ] refl
    ]

-- where the first part isn't stopped something is put
pub filled-less : (room least : ℕ) (p : Part) (ps : List Part) → Rises least (p ∷ ps) → ends_before room p ≡ false
    → let f = filled room (p ∷ ps) in ((f.parts ≡ p ∷ ps) × (f.cursor ≡ at_start)) ⊎ (weight (behind_cursor f.cursor (p ∷ ps)) < weight (p ∷ ps))
unfolding filled Rises
filled-less room least p ps h goes =
    let fit = fitting (room - 11) p.commands in
    let short : Filled = record { parts = first_part fit p ∷ []; cursor = record { slot = p.origin; number = p.first + fit } } in
    let more = filled (room - length (part_bytes p)) ps in
    let whole : Filled = record { parts = p ∷ more.parts; cursor = more.cursor } in
    let Less : Filled → Type 0 = λ f. ((f.parts ≡ p ∷ ps) × (f.cursor ≡ at_start)) ⊎ (weight (behind_cursor f.cursor (p ∷ ps)) < weight (p ∷ ps)) in
    rw goes (elim (nat_lt fit (length p.commands)) as (λ v. nat_lt fit (length p.commands) ≡ v → Less (cond v short whole)) [
      | true ↦ λ e.
          let below = ltb-true fit (length p.commands) e in
          let less = at-part p ps fit below in
          let none = (or_parts (nat_lt room 11) (nat_lt 0 (length p.commands) && (fit == 0)) goes).1 in
          let there = lt-ltb 0 (length p.commands) (omega arith) in
          let zero : (fit == 0) ≡ false = rw there at none in
          let some : 0 < fit = grind (arith, nat_tests) in
          inr (omega arith)
      | false ↦ λ e. without (whole-part least room p ps more h.0 (filled-goes (room - length (part_bytes p)) (p.origin + 1) ps h.1))
    ] refl)

starts-by : (room payload before : ℕ) (cs : List Sent) → 16 + payload ≤ room → AreSent payload before cs → (nat_lt room 11 || (nat_lt 0 (length cs) && (fitting (room - 11) cs == 0))) ≡ false
unfolding fitting
starts-by room payload before [] enough are = (let e : nat_lt room 11 ≡ false = le-ltb room 11 (omega arith) in rw e refl)
starts-by room payload before (c ∷ cs) enough are =
    let e : nat_lt room 11 ≡ false = le-ltb room 11 (omega arith) in
    let short = leb-true (length c.payload) payload (and_parts (nat_le before c.time) (nat_le (length c.payload) payload) are.0.follows).1 in
    let fits : nat_le (5 + length c.payload) (room - 11) ≡ true = le-leb (5 + length c.payload) (room - 11) (omega arith) in
    let some : (suc (fitting (room - 11 - (5 + length c.payload)) cs) == 0) ≡ false = grind (arith, nat_tests) in
    let there : nat_lt 0 (length (c ∷ cs)) ≡ true = lt-ltb 0 (length (c ∷ cs)) (omega arith) in
    rw (e, fits, some, there) refl

-- room for a head, and a command of the longest payload behind it
pub starts : (room payload before : ℕ) (p : Part) → 16 + payload ≤ room → AreSent payload before p.commands → ends_before room p ≡ false
unfolding fitting
starts room payload before p enough are = starts-by room payload before p.commands enough are
