-- Where a packet has not all that is due, it has less.
use Rattle.std.proofs.Common.{◌≡◌, ap, sym, subst, ℕ, ◌+◌, ◌-◌, ◌≤◌, ◌<◌, ◌↔◌, ◌⊎◌, inl, inr, true, false, cond, not, ◌==◌, List, [], ◌∷◌, length, refl, arith}
use Rattle.std.specs.Prelude.{nat_lt}
use Rattle.std.proofs.lemmas.Bool.{ltb-true, eq-eqb}
use Rattle.std.proofs.lemmas.Bool.Decides.{nat_tests}
use Rattle.std.proofs.lemmas.List.{length-take, length-drop}
use Rattle.peer_packet.specs.Packet.{Part, part_bytes}
use Rattle.peer_packet.specs.declared.cursor.Cursor.{Cursor}
use Rattle.peer_packet.specs.Filling.{Filled, first_part, behind_cursor, or_all, from_cursor, fitting, ends_before, filled, put_in, weight}
use Rattle.peer_packet.proofs.Cursors.{cases}

-- the same parts, or some less
abbrev pub IsLess : List Part → List Part → Type 0
IsLess some all = (some ≡ all) ⊎ (weight some < weight all)

less-one : (p : Part) (some all : List Part) → IsLess some all → IsLess (p ∷ some) (p ∷ all)
unfolding weight
less-one p some all (inl same) = inl (ap (λ (l : List Part). p ∷ l) same)
less-one p some all (inr less) = inr (omega arith)

filled-less : (room : ℕ) (ps : List Part) → IsLess (filled room ps).parts ps
unfolding filled weight
filled-less room [] = inl refl
filled-less room (p ∷ ps) =
    let fit = fitting (room - 11) p.commands in
    let stop : Filled = record { parts = []; cursor = record { slot = p.origin; number = p.first } } in
    let short : Filled = record { parts = first_part fit p ∷ []; cursor = record { slot = p.origin; number = p.first + fit } } in
    let more = filled (room - length (part_bytes p)) ps in
    let whole : Filled = record { parts = p ∷ more.parts; cursor = more.cursor } in
    elim (ends_before room p) as (λ v. IsLess (cond v stop (cond (nat_lt fit (length p.commands)) short whole)).parts (p ∷ ps)) [
      | true ↦ inr (omega arith)
      | false ↦ elim (nat_lt fit (length p.commands)) as (λ v. nat_lt fit (length p.commands) ≡ v → IsLess (cond v short whole).parts (p ∷ ps)) [
        | true ↦ λ e. (let less = ltb-true fit (length p.commands) e in let long = length-take fit p.commands in inr (omega arith))
        | false ↦ λ e. less-one p more.parts ps (filled-less (room - length (part_bytes p)) ps)
      ] refl
    ]

at_most : (some all : List Part) → IsLess some all → weight some ≤ weight all
at_most some all (inl same) = (let e = ap weight same in omega arith)
at_most some all (inr less) = omega arith

behind-less : (c : Cursor) (ps : List Part) → IsLess (behind_cursor c ps) ps
unfolding behind_cursor weight
behind-less c [] = inl refl
behind-less c (p ∷ ps) =
    cases (λ l. IsLess l (p ∷ ps)) c p ps
    (λ below. (let most = at_most (behind_cursor c ps) ps (behind-less c ps) in inr (omega arith)))
    (λ w. inl refl)
    (λ same behind end. inr (omega arith))
    (λ same behind end. (let long = length-drop (c.number - p.first) p.commands in inr (omega arith)))

all-less : (due waits : List Part) → IsLess waits due → IsLess (or_all due waits) due
all-less due [] h = inl refl
all-less due (p ∷ ps) h = h

less-on : (put waits due : List Part) → IsLess put waits → IsLess waits due → IsLess put due
less-on put waits due (inl same) h = subst (λ (l : List Part). IsLess l due) (sym same) h
less-on put waits due (inr less) h = (let most = at_most waits due h in inr (omega arith))

pub put-less : (c : Cursor) (room : ℕ) (due : List Part) → IsLess (put_in c room due).parts due
put-less c room due =
    less-on (put_in c room due).parts (from_cursor c due) due (filled-less room (from_cursor c due)) (all-less due (behind_cursor c due) (behind-less c due))

told_so : (put due : List Part) → IsLess put due → ((not (weight put == weight due)) ≡ false) ↔ (put ≡ due)
told_so put due (inl same) = (λ e. same, λ e. ap not (eq-eqb (weight put) (weight due) (ap weight same)))
told_so put due (inr less) =
    (λ e. absurd (grind (arith, nat_tests)), λ e. absurd (let same = ap weight e in omega arith))

pub more-told : (c : Cursor) (room : ℕ) (due : List Part) → ((not (weight (put_in c room due).parts == weight due)) ≡ false) ↔ ((put_in c room due).parts ≡ due)
more-told c room due = told_so (put_in c room due).parts due (put-less c room due)
