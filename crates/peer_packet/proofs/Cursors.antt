-- Where packets begin that are made one after another.
use Rattle.std.proofs.Common.{◌≡◌, ℕ, zero, suc, ◌+◌, ◌-◌, ◌≤◌, ◌<◌, ◌⊎◌, inl, inr, true, false, cond, ◌||◌, List, [], ◌∷◌, length, drop, refl, ap, arith}
use Rattle.std.specs.Prelude.{nat_le, nat_lt}
use Rattle.std.specs.List.{AllByRecursion}
use Rattle.std.proofs.lemmas.Bool.{leb-true, leb-false, ltb-true, ltb-false, lt-ltb}
use Rattle.std.proofs.lemmas.List.{length-drop}
use Rattle.peer_packet.specs.Packet.{Part, part_bytes}
use Rattle.peer_packet.specs.declared.cursor.Cursor.{Cursor}
use Rattle.peer_packet.specs.Filling.{Filled, at_start, later_part, first_part, behind_cursor, fitting, ends_before, filled, weight}
use Rattle.peer_packet.proofs.Goes.{Rises}

-- a cursor stands at another or behind it
unfoldable pub After : Cursor → Cursor → Type 0
After c d = (c.slot < d.slot) ⊎ ((c.slot ≡ d.slot) × (c.number ≤ d.number))

-- a part waits behind a cursor
unfoldable pub Waits : Cursor → Part → Type 0
Waits c p = (c.slot < p.origin) ⊎ ((c.slot ≡ p.origin) × (c.number ≤ p.first))

pub above-wait : (c : Cursor) (least : ℕ) (ps : List Part) → c.slot < least → Rises least ps → AllByRecursion (Waits c) ps
unfolding Rises Waits
above-wait c least [] less h = tt
above-wait c least (p ∷ ps) less h = (let up = h.0 in (inl (omega arith), above-wait c (p.origin + 1) ps (omega arith) h.1))

-- what a cursor leaves out of parts, case by case: those of slots below it; none, where it is at the first or before
-- it; the first, where it is behind that; or the first numbers of that
pub cases :
    (Q : List Part → Type 0) (c : Cursor) (p : Part) (ps : List Part)
    → (p.origin < c.slot → Q (behind_cursor c ps)) → (Waits c p → Q (p ∷ ps))
    → (c.slot ≡ p.origin → p.first < c.number → p.first + length p.commands ≤ c.number → Q ps)
    → (c.slot ≡ p.origin → p.first < c.number → c.number < p.first + length p.commands → Q (later_part (c.number - p.first) p ∷ ps))
    → Q (behind_cursor c (p ∷ ps))
unfolding behind_cursor Waits
cases Q c p ps below waits past within =
    let later : List Part = later_part (c.number - p.first) p ∷ ps in
    elim (nat_lt p.origin c.slot) as (λ v. nat_lt p.origin c.slot ≡ v → Q (cond v (behind_cursor c ps) (cond (nat_lt c.slot p.origin || nat_le c.number p.first) (p ∷ ps) (cond (nat_le (p.first + length p.commands) c.number) ps later)))) [
      | true ↦ λ e. below (ltb-true p.origin c.slot e)
      | false ↦ λ e.
          let least = ltb-false p.origin c.slot e in
          elim (nat_lt c.slot p.origin) as (λ v. nat_lt c.slot p.origin ≡ v → Q (cond (v || nat_le c.number p.first) (p ∷ ps) (cond (nat_le (p.first + length p.commands) c.number) ps later))) [
            | true ↦ λ a. waits (inl (ltb-true c.slot p.origin a))
            | false ↦ λ a.
                let most = ltb-false c.slot p.origin a in
                let same : c.slot ≡ p.origin = omega arith in
                elim (nat_le c.number p.first) as (λ v. nat_le c.number p.first ≡ v → Q (cond v (p ∷ ps) (cond (nat_le (p.first + length p.commands) c.number) ps later))) [
                  | true ↦ λ b. waits (inr (same, leb-true c.number p.first b))
                  | false ↦ λ b.
                      let behind = leb-false c.number p.first b in
                      elim (nat_le (p.first + length p.commands) c.number) as (λ v. nat_le (p.first + length p.commands) c.number ≡ v → Q (cond v ps later)) [
                        | true ↦ λ d. past same behind (leb-true (p.first + length p.commands) c.number d)
                        | false ↦ λ d. within same behind (leb-false (p.first + length p.commands) c.number d)
                      ] refl
                ] refl
          ] refl
    ]
    refl

-- parts that wait are all behind it
pub waiting : (c : Cursor) (ps : List Part) → AllByRecursion (Waits c) ps → behind_cursor c ps ≡ ps
unfolding behind_cursor Waits
waiting c [] h = refl
waiting c (p ∷ ps) h =
    cases (λ l. l ≡ p ∷ ps) c p ps
    (λ below. absurd (elim h.0 [ inl a ↦ omega arith | inr b ↦ (let same = b.0 in omega arith) ]))
    (λ w. refl)
    (λ same behind end. absurd (elim h.0 [ inl a ↦ omega arith | inr b ↦ (let at = b.1 in omega arith) ]))
    (λ same behind end. absurd (elim h.0 [ inl a ↦ omega arith | inr b ↦ (let at = b.1 in omega arith) ]))

pub all-wait : (c : Cursor) (least : ℕ) (ps : List Part) → Rises least ps → AllByRecursion (Waits c) (behind_cursor c ps)
unfolding behind_cursor Rises Waits
all-wait c least [] h = tt
all-wait c least (p ∷ ps) h =
    cases (AllByRecursion (Waits c)) c p ps
    (λ below. all-wait c (p.origin + 1) ps h.1)
    (λ w. (w, above-wait c (p.origin + 1) ps (elim w [ inl a ↦ omega arith | inr b ↦ (let same = b.0 in omega arith) ]) h.1))
    (λ same behind end. above-wait c (p.origin + 1) ps (omega arith) h.1)
    (λ same behind end. (inr (same, omega arith), above-wait c (p.origin + 1) ps (omega arith) h.1))

-- a packet ends at the cursor where it began or behind it, or at the start
pub filled-after : (c : Cursor) (room : ℕ) (ps : List Part) → AllByRecursion (Waits c) ps → ((filled room ps).cursor ≡ at_start) ⊎ After c (filled room ps).cursor
unfolding filled After Waits
filled-after c room [] h = inl refl
filled-after c room (p ∷ ps) h =
    let fit = fitting (room - 11) p.commands in
    let stop : Filled = record { parts = []; cursor = record { slot = p.origin; number = p.first } } in
    let short : Filled = record { parts = first_part fit p ∷ []; cursor = record { slot = p.origin; number = p.first + fit } } in
    let more = filled (room - length (part_bytes p)) ps in
    let whole : Filled = record { parts = p ∷ more.parts; cursor = more.cursor } in
    elim (ends_before room p) as (λ v. ((cond v stop (cond (nat_lt fit (length p.commands)) short whole)).cursor ≡ at_start) ⊎ After c (cond v stop (cond (nat_lt fit (length p.commands)) short whole)).cursor) [
      | true ↦ inr h.0
      | false ↦ elim (nat_lt fit (length p.commands)) as (λ v. ((cond v short whole).cursor ≡ at_start) ⊎ After c (cond v short whole).cursor) [
        | true ↦ inr (elim h.0 [ inl a ↦ inl a | inr b ↦ (let at = b.1 in inr (b.0, omega arith)) ])
        | false ↦ filled-after c (room - length (part_bytes p)) ps h.1
      ]
    ]

-- what waits behind a later cursor is no more of all that is due than of what waited behind an earlier one
pub waits-less : (c d : Cursor) (least : ℕ) (ps : List Part) → Rises least ps → After c d → weight (behind_cursor d ps) ≤ weight (behind_cursor d (behind_cursor c ps))
unfolding behind_cursor Rises weight After Waits
waits-less c d least [] h after = omega arith
waits-less c d least (p ∷ ps) h after =
    cases (λ l. weight (behind_cursor d (p ∷ ps)) ≤ weight (behind_cursor d l)) c p ps
    (λ below.
    let past : p.origin < d.slot = elim after [ inl a ↦ omega arith | inr b ↦ (let same = b.0 in omega arith) ] in
    let e : nat_lt p.origin d.slot ≡ true = lt-ltb p.origin d.slot past in
    rw e (waits-less c d (p.origin + 1) ps h.1 after))
    (λ w. omega arith)
    (λ same behind end. cases (λ l. weight l ≤ weight (behind_cursor d ps)) d p ps
    (λ below. omega arith)
    (λ w. absurd (elim after [ inl a ↦ elim w [ inl x ↦ omega arith | inr y ↦ (let at = y.0 in omega arith) ] | inr b ↦ (let s = b.0 in let n = b.1 in elim w [ inl x ↦ omega arith | inr y ↦ (let at = y.1 in omega arith) ]) ]))
    (λ at past over. (let all = waiting d ps (above-wait d (p.origin + 1) ps (omega arith) h.1) in let e = ap weight all in omega arith))
    (λ at past over. absurd (elim after [ inl a ↦ omega arith | inr b ↦ (let n = b.1 in omega arith) ])))
    (λ same behind end.
    let k = c.number - p.first in
    let q = later_part k p in
    let long = length-drop k p.commands in
    cases (λ l. weight l ≤ weight (behind_cursor d (q ∷ ps))) d p ps
    (λ below. (let e : nat_lt p.origin d.slot ≡ true = lt-ltb p.origin d.slot below in rw e (omega arith)))
    (λ w. absurd (elim after [ inl a ↦ elim w [ inl x ↦ omega arith | inr y ↦ (let at = y.0 in omega arith) ] | inr b ↦ (let s = b.0 in let n = b.1 in elim w [ inl x ↦ omega arith | inr y ↦ (let at = y.1 in omega arith) ]) ]))
    (λ at past over. cases (λ l. weight ps ≤ weight l) d q ps
    (λ below. absurd (omega arith)) (λ w. omega arith) (λ s t u. omega arith) (λ s t u. omega arith))
    (λ at past over.
    let gone = length-drop (d.number - p.first) p.commands in
    cases (λ l. 1 + length (drop (d.number - p.first) p.commands) + weight ps ≤ weight l) d q ps
    (λ below. absurd (omega arith)) (λ w. omega arith)
    (λ s t u. absurd (omega arith))
    (λ s t u. (let far = length-drop (d.number - q.first) q.commands in omega arith))))

start-waits : (o f : ℕ) → (0 < o) ⊎ ((0 ≡ o) × (0 ≤ f))
start-waits zero f = inr (refl, omega arith)
start-waits (suc o) f = inl (omega arith)

all-start : (ps : List Part) → AllByRecursion (Waits at_start) ps
unfolding Waits
all-start [] = tt
all-start (p ∷ ps) = (start-waits p.origin p.first, all-start ps)

-- at the start nothing is left out
pub from-start : (ps : List Part) → behind_cursor at_start ps ≡ ps
from-start ps = waiting at_start ps (all-start ps)
