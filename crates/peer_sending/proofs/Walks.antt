-- A packet that is put slot by slot.
use Rattle.std.proofs.Common.{◌≡◌, ℕ, zero, suc, ◌+◌, ◌-◌, ◌*◌, ◌≤◌, ◌<◌, inl, inr, true, false, cond, List, [], ◌∷◌, ◌++◌, length, length-append, refl, ap, sym, subst, ◌∙◌, append_assoc, arith}
use Rattle.std.specs.Prelude.{nat_lt}
use Rattle.std.specs.List.{range_with_len, flat_map}
use Rattle.std.proofs.lemmas.Bool.{ltb-true, ltb-false}
use Rattle.std.proofs.lemmas.List.{append-nil}
use Rattle.std.proofs.lemmas.List.Concat.{flat_map-cons}
use Rattle.peer_packet.specs.declared.cursor.Cursor.{Cursor}
use Rattle.peer_packet.specs.Packet.{Sent, Part, sent_bytes, part_bytes}
use Rattle.peer_packet.specs.Filling.{Filled, at_start, later_part, behind_cursor, or_all, from_cursor, filled, weight}
use Rattle.peer_packet.proofs.Goes.{Rises}
use Rattle.peer_packet.proofs.Cursors.{Waits, cases, waiting, above-wait, from-start}
use Rattle.peer_sending.specs.Filling.{EndsWith, GoesOn}

-- ---- slot by slot

module _ {A : Type 0} (f : ℕ → List A) where
  pub flat-more : (a n j : ℕ) → a + n ≡ j → flat_map f (range_with_len a (suc n)) ≡ flat_map f (range_with_len a n) ++ f j
  flat-more a zero j is = (let e : a ≡ j = omega arith in flat_map-cons f a [] ∙ append-nil (f a) ∙ ap f e)
  flat-more a (suc n) j is =
      flat_map-cons f a (range_with_len (a + 1) (suc n))
      ∙ ap (λ (l : List A). f a ++ l) (flat-more (a + 1) n j (omega arith))
      ∙ sym (append_assoc (f a) (flat_map f (range_with_len (a + 1) n)) (f j))
      ∙ ap (λ (l : List A). l ++ f j) (sym (flat_map-cons f a (range_with_len (a + 1) n)))

  -- the first slots, and one more
  pub flat-one : (n : ℕ) → flat_map f (range_with_len 0 (n + 1)) ≡ flat_map f (range_with_len 0 n) ++ f n
  flat-one n = (let e : n + 1 ≡ suc n = omega arith in ap (λ (k : ℕ). flat_map f (range_with_len 0 k)) e ∙ flat-more 0 n n (omega arith))

  pub flat-add : (a n m : ℕ) → flat_map f (range_with_len a (n + m)) ≡ flat_map f (range_with_len a n) ++ flat_map f (range_with_len (a + n) m)
  flat-add a zero m =
      let e : a + 0 ≡ a = omega arith in
      let none : 0 + m ≡ m = omega arith in
      ap (λ (k : ℕ). flat_map f (range_with_len a k)) none ∙ ap (λ (k : ℕ). flat_map f (range_with_len k m)) (sym e)
  flat-add a (suc n) m =
      let e : suc n + m ≡ suc (n + m) = omega arith in
      let at : (a + 1) + n ≡ a + suc n = omega arith in
      ap (λ (k : ℕ). flat_map f (range_with_len a k)) e
      ∙ flat_map-cons f a (range_with_len (a + 1) (n + m))
      ∙ ap (λ (l : List A). f a ++ l) (flat-add (a + 1) n m ∙ ap (λ (k : ℕ). flat_map f (range_with_len (a + 1) n) ++ flat_map f (range_with_len k m)) at)
      ∙ sym (append_assoc (f a) (flat_map f (range_with_len (a + 1) n)) (flat_map f (range_with_len (a + suc n) m)))
      ∙ ap (λ (l : List A). l ++ flat_map f (range_with_len (a + suc n) m)) (sym (flat_map-cons f a (range_with_len (a + 1) n)))

  -- all slots are the first ones, one, and those behind it
  pub flat-split : (n o : ℕ) → o < n
      → flat_map f (range_with_len 0 n) ≡ (flat_map f (range_with_len 0 o) ++ f o) ++ flat_map f (range_with_len (o + 1) (n - (o + 1)))
  flat-split n o less =
      let e : (o + 1) + (n - (o + 1)) ≡ n = omega arith in
      let start : 0 + (o + 1) ≡ o + 1 = omega arith in
      ap (λ (k : ℕ). flat_map f (range_with_len 0 k)) (sym e)
      ∙ flat-add 0 (o + 1) (n - (o + 1))
      ∙ ap (λ (k : ℕ). flat_map f (range_with_len 0 (o + 1)) ++ flat_map f (range_with_len k (n - (o + 1)))) start
      ∙ ap (λ (l : List A). l ++ flat_map f (range_with_len (o + 1) (n - (o + 1)))) (flat-one o)

-- ---- behind a cursor

-- a slot has one part at most, and it is its own
unfoldable pub Stands : ℕ → List Part → Type 0
Stands o [] = Unit {0}
Stands o (p ∷ []) = p.origin ≡ o
Stands o (p ∷ q ∷ ps) = ⊥

behind-cons : (c : Cursor) (p : Part) (ps : List Part) → Rises (p.origin + 1) ps → behind_cursor c (p ∷ ps) ≡ behind_cursor c (p ∷ []) ++ behind_cursor c ps
unfolding Waits
behind-cons c p ps h =
    let rest : c.slot ≤ p.origin → behind_cursor c ps ≡ ps = λ low. waiting c ps (above-wait c (p.origin + 1) ps (omega arith) h) in
    let Q : List Part → Type 0 = λ l. l ≡ behind_cursor c (p ∷ []) ++ behind_cursor c ps in
    let none : behind_cursor c [] ≡ [] = waiting c [] tt in
    cases Q c p ps
    (λ less. cases (λ l. behind_cursor c ps ≡ l ++ behind_cursor c ps) c p []
    (λ b. ap (λ (l : List Part). l ++ behind_cursor c ps) (sym none))
    (λ w. absurd (elim w [ inl a ↦ omega arith | inr b ↦ (let s = b.0 in omega arith) ]))
    (λ same up end. absurd (omega arith))
    (λ same up end. absurd (omega arith)))
    (λ w.
    let low : c.slot ≤ p.origin = elim w [ inl a ↦ omega arith | inr b ↦ (let s = b.0 in omega arith) ] in
    ap (λ (l : List Part). p ∷ l) (sym (rest low)) ∙ ap (λ (l : List Part). l ++ behind_cursor c ps) (sym (waiting c (p ∷ []) (w, tt))))
    (λ same up end. cases (λ l. ps ≡ l ++ behind_cursor c ps) c p []
    (λ b. absurd (omega arith))
    (λ w. absurd (elim w [ inl a ↦ omega arith | inr b ↦ (let s = b.1 in omega arith) ]))
    (λ s u e. sym (rest (omega arith)))
    (λ s u e. absurd (omega arith)))
    (λ same up end. cases (λ l. later_part (c.number - p.first) p ∷ ps ≡ l ++ behind_cursor c ps) c p []
    (λ b. absurd (omega arith))
    (λ w. absurd (elim w [ inl a ↦ omega arith | inr b ↦ (let s = b.1 in omega arith) ]))
    (λ s u e. absurd (omega arith))
    (λ s u e. ap (λ (l : List Part). later_part (c.number - p.first) p ∷ l) (sym (rest (omega arith)))))

behind-one : (c : Cursor) (o : ℕ) (qs ps : List Part) → Stands o qs → Rises (o + 1) ps → behind_cursor c (qs ++ ps) ≡ behind_cursor c qs ++ behind_cursor c ps
unfolding Stands
behind-one c o [] ps at h = ap (λ (l : List Part). l ++ behind_cursor c ps) (sym (waiting c [] tt))
behind-one c o (p ∷ []) ps at h = behind-cons c p ps (subst (λ (n : ℕ). Rises (n + 1) ps) (sym at) h)
behind-one c o (p ∷ q ∷ qs) ps at h = absurd at

rises-lower : (o : ℕ) (ps : List Part) → Rises (o + 1) ps → Rises o ps
unfolding Rises
rises-lower o [] h = tt
rises-lower o (p ∷ ps) h = (let up = h.0 in (omega arith, h.1))

rises-one : (o : ℕ) (qs ps : List Part) → Stands o qs → Rises (o + 1) ps → Rises o (qs ++ ps)
unfolding Stands Rises
rises-one o [] ps at h = rises-lower o ps h
rises-one o (p ∷ []) ps at h = (omega arith, subst (λ (n : ℕ). Rises (n + 1) ps) (sym at) h)
rises-one o (p ∷ q ∷ qs) ps at h = absurd at

module _ (at : ℕ → List Part) (stands : (o : ℕ) → Stands o (at o)) where
  pub flat-rises : (o n : ℕ) → Rises o (flat_map at (range_with_len o n))
  unfolding Rises
  flat-rises o zero = tt
  flat-rises o (suc n) = subst (Rises o) (sym (flat_map-cons at o (range_with_len (o + 1) n))) (rises-one o (at o) (flat_map at (range_with_len (o + 1) n)) (stands o) (flat-rises (o + 1) n))

  -- a cursor leaves out of each slot by itself
  pub flat-behind : (c : Cursor) (o n : ℕ) → behind_cursor c (flat_map at (range_with_len o n)) ≡ flat_map (λ p. behind_cursor c (at p)) (range_with_len o n)
  unfolding behind_cursor
  flat-behind c o zero = refl
  flat-behind c o (suc n) =
      ap (behind_cursor c) (flat_map-cons at o (range_with_len (o + 1) n))
      ∙ behind-one c o (at o) (flat_map at (range_with_len (o + 1) n)) (stands o) (flat-rises (o + 1) n)
      ∙ ap (λ (l : List Part). behind_cursor c (at o) ++ l) (flat-behind c (o + 1) n)
      ∙ sym (flat_map-cons (λ p. behind_cursor c (at p)) o (range_with_len (o + 1) n))

-- ---- weights

pub weight-append : (ps qs : List Part) → weight (ps ++ qs) ≡ weight ps + weight qs
unfolding weight
weight-append [] qs = omega arith
weight-append (p ∷ ps) qs = (let more = weight-append ps qs in omega arith)

many-bytes : (cs : List Sent) → 5 * length cs ≤ length (flat_map sent_bytes cs)
many-bytes [] = omega arith
many-bytes (c ∷ cs) =
    let more = many-bytes cs in
    let one : length (sent_bytes c) ≡ 5 + length c.payload = omega arith in
    let all = ap (λ (t : List ℕ). length t) (flat_map-cons sent_bytes c cs) in
    omega (arith, more, one, all, length-append (sent_bytes c) (flat_map sent_bytes cs))

-- a part has more bytes than it has commands
pub weight-bytes : (ps : List Part) → weight ps ≤ length (flat_map part_bytes ps)
unfolding weight
weight-bytes [] = omega arith
weight-bytes (p ∷ ps) =
    let more = weight-bytes ps in
    let many = many-bytes p.commands in
    let one : length (part_bytes p) ≡ 11 + length (flat_map sent_bytes p.commands) = omega arith in
    let all = ap (λ (t : List ℕ). length t) (flat_map-cons part_bytes p ps) in
    omega (arith, more, many, one, all, length-append (part_bytes p) (flat_map part_bytes ps))

weightless : (ps : List Part) → weight ps ≡ 0 → ps ≡ []
unfolding weight
weightless [] none = refl
weightless (p ∷ ps) none = absurd (omega arith)

all-or : (c : Cursor) (due ps : List Part) → 0 < weight ps → or_all due ps ≡ ps
unfolding weight
all-or c due [] some = absurd (omega arith)
all-or c due (p ∷ ps) some = refl

-- where nothing waits behind the cursor a packet begins anew
pub from-is : (c : Cursor) (due : List Part) (waits : ℕ) (d : Cursor) → waits ≡ weight (behind_cursor c due) → d ≡ cond (nat_lt 0 waits) c at_start
    → from_cursor c due ≡ behind_cursor d due
from-is c due waits d is at =
    elim (nat_lt 0 waits) as (λ v. nat_lt 0 waits ≡ v → d ≡ cond v c at_start → from_cursor c due ≡ behind_cursor d due) [
      | true ↦ λ e same. (let some = ltb-true 0 waits e in all-or c due (behind_cursor c due) (omega arith) ∙ ap (λ (x : Cursor). behind_cursor x due) (sym same))
      | false ↦ λ e same.
          let none = ltb-false 0 waits e in
          ap (or_all due) (weightless (behind_cursor c due) (omega arith))
          ∙ sym (from-start due) ∙ ap (λ (x : Cursor). behind_cursor x due) (sym same)
    ] refl at

-- ---- putting

pub goes-none : (room : ℕ) → GoesOn room room []
goes-none room more = refl

pub goes-then : (room left last : ℕ) (ps qs : List Part) → GoesOn room left ps → GoesOn left last qs → GoesOn room last (ps ++ qs)
goes-then room left last ps qs g h more =
    ap (filled room) (append_assoc ps qs more) ∙ g (qs ++ more)
    ∙ ap (λ (f : Filled). record { parts = ps ++ f.parts; cursor = f.cursor }) (h more)
    ∙ ap (λ (l : List Part). record { parts = l; cursor = (filled last more).cursor }) (sym (append_assoc ps qs (filled last more).parts))

-- it ends among the second ones
pub ends-then : (room left : ℕ) (ps qs : List Part) (c : Cursor) → GoesOn room left ps → EndsWith left qs c → (more : List Part)
    → filled room ((ps ++ qs) ++ more) ≡ record { parts = ps ++ (filled left qs).parts; cursor = c }
ends-then room left ps qs c g h more =
    ap (filled room) (append_assoc ps qs more) ∙ g (qs ++ more)
    ∙ ap (λ (f : Filled). record { parts = ps ++ f.parts; cursor = f.cursor }) (h more)

-- it has them all
pub goes-all : (room left : ℕ) (ps : List Part) → GoesOn room left ps → filled room ps ≡ record { parts = ps; cursor = at_start }
unfolding filled
goes-all room left ps g =
    ap (filled room) (sym (append-nil ps)) ∙ g [] ∙ ap (λ (l : List Part). record { parts = l; cursor = at_start }) (append-nil ps)
