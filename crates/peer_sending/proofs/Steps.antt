-- One part put into a packet.
use Rattle.std.proofs.Common.{◌≡◌, ℕ, ◌+◌, ◌-◌, ◌≤◌, true, false, cond, Option, Some, None, List, [], ◌∷◌, length, refl, ap, sym, subst, ◌∙◌, arith}
use Rattle.std.specs.Prelude.{nat_lt, IfSome, IfNone}
use Rattle.std.specs.List.{flat_map}
use Rattle.std.proofs.lemmas.Bool.{ltb-false}
use Rattle.std.proofs.lemmas.List.{append-nil, length-take, take_all}
use Rattle.std.proofs.lemmas.List.Concat.{flat_map-cons}
use Rattle.peer_packet.specs.declared.cursor.Cursor.{Cursor}
use Rattle.peer_packet.specs.Packet.{Sent, Part, part_bytes}
use Rattle.peer_packet.specs.Filling.{Filled, first_part, fitting, ends_before, filled, weight}
use Rattle.peer_packet.proofs.FillLaws.{fit_few}
use Rattle.peer_sending.specs.Filling.{EndsWith, GoesOn}

-- ---- one part before others

pub stopped : (room : ℕ) (p : Part) (more : List Part) → ends_before room p ≡ true
    → filled room (p ∷ more) ≡ record { parts = []; cursor = record { slot = p.origin; number = p.first } }
unfolding filled
stopped room p more e = rw e refl

short : (room : ℕ) (p : Part) (more : List Part) → ends_before room p ≡ false → nat_lt (fitting (room - 11) p.commands) (length p.commands) ≡ true
    → filled room (p ∷ more) ≡ record { parts = first_part (fitting (room - 11) p.commands) p ∷ []; cursor = record { slot = p.origin; number = p.first + fitting (room - 11) p.commands } }
unfolding filled
short room p more e less = rw (e, less) refl

whole : (room : ℕ) (p : Part) (more : List Part) → ends_before room p ≡ false → nat_lt (fitting (room - 11) p.commands) (length p.commands) ≡ false
    → filled room (p ∷ more) ≡ record { parts = p ∷ (filled (room - length (part_bytes p)) more).parts; cursor = (filled (room - length (part_bytes p)) more).cursor }
unfolding filled
whole room p more e all = rw (e, all) refl

all-first : (k : ℕ) (p : Part) → length p.commands ≤ k → first_part k p ≡ p
all-first k p all = ap (λ (l : List Sent). record p { commands = l }) (take_all k p.commands all)

-- ---- what is put of it

pub parts-are : (room k : ℕ) (p : Part) → ends_before room p ≡ false → k ≡ fitting (room - 11) p.commands → first_part k p ∷ [] ≡ (filled room (p ∷ [])).parts
unfolding filled
parts-are room k p e is =
    let fit = fitting (room - 11) p.commands in
    let same : first_part k p ∷ [] ≡ first_part fit p ∷ [] = ap (λ (n : ℕ). first_part n p ∷ []) is in
    elim (nat_lt fit (length p.commands)) as (λ v. nat_lt fit (length p.commands) ≡ v → first_part k p ∷ [] ≡ (filled room (p ∷ [])).parts) [
      | true ↦ λ less. same ∙ ap (λ (f : Filled). f.parts) (sym (short room p [] e less))
      | false ↦ λ all.
          same ∙ ap (λ (x : Part). x ∷ []) (all-first fit p (ltb-false fit (length p.commands) all))
          ∙ ap (λ (f : Filled). f.parts) (sym (whole room p [] e all))
    ] refl

pub bytes-are : (room k : ℕ) (p : Part) → ends_before room p ≡ false → k ≡ fitting (room - 11) p.commands
    → part_bytes (first_part k p) ≡ flat_map part_bytes (filled room (p ∷ [])).parts
bytes-are room k p e is =
    sym (flat_map-cons part_bytes (first_part k p) [] ∙ append-nil (part_bytes (first_part k p))) ∙ ap (flat_map part_bytes) (parts-are room k p e is)

pub weight-is : (room k : ℕ) (p : Part) → ends_before room p ≡ false → k ≡ fitting (room - 11) p.commands → 1 + k ≡ weight (filled room (p ∷ [])).parts
unfolding weight
weight-is room k p e is =
    let few = fit_few (room - 11) p.commands in
    let took = length-take k p.commands in
    let same = ap weight (parts-are room k p e is) in
    omega arith

-- ---- whether it ends there

abbrev end_at : ℕ → Part → Option Cursor
end_at k p = cond (nat_lt k (length p.commands)) (Some (record { slot = p.origin; number = p.first + k })) None

pub goes : (room left k : ℕ) (p : Part) (end : Option Cursor) → ends_before room p ≡ false → k ≡ fitting (room - 11) p.commands
    → left ≡ room - length (part_bytes (first_part k p)) → end_at k p ≡ end → IfNone end (GoesOn room left (p ∷ []))
goes room left k p end e is rest ends =
    let there : Option Cursor = Some (record { slot = p.origin; number = p.first + k }) in
    subst (λ (r : Option Cursor). IfNone r (GoesOn room left (p ∷ []))) ends
    (elim (nat_lt k (length p.commands)) as (λ v. nat_lt k (length p.commands) ≡ v → IfNone (cond v there None) (GoesOn room left (p ∷ []))) [
      | true ↦ λ less. tt
      | false ↦ λ all more.
          let over = ltb-false k (length p.commands) all in
          let fit : nat_lt (fitting (room - 11) p.commands) (length p.commands) ≡ false = ap (λ (n : ℕ). nat_lt n (length p.commands)) (sym is) ∙ all in
          let same : left ≡ room - length (part_bytes p) = rest ∙ ap (λ (x : Part). room - length (part_bytes x)) (all-first k p over) in
          whole room p more e fit
          ∙ ap (λ (n : ℕ). record { parts = p ∷ (filled n more).parts; cursor = (filled n more).cursor }) (sym same)
    ] refl)

pub ends : (room k : ℕ) (p : Part) (end : Option Cursor) → ends_before room p ≡ false → k ≡ fitting (room - 11) p.commands
    → end_at k p ≡ end → IfSome end (λ c. EndsWith room (p ∷ []) c)
ends room k p end e is at =
    let there : Option Cursor = Some (record { slot = p.origin; number = p.first + k }) in
    subst (λ (r : Option Cursor). IfSome r (λ c. EndsWith room (p ∷ []) c)) at
    (elim (nat_lt k (length p.commands)) as (λ v. nat_lt k (length p.commands) ≡ v → IfSome (cond v there None) (λ c. EndsWith room (p ∷ []) c)) [
      | true ↦ λ less more.
          let fit : nat_lt (fitting (room - 11) p.commands) (length p.commands) ≡ true = ap (λ (n : ℕ). nat_lt n (length p.commands)) (sym is) ∙ less in
          short room p more e fit
          ∙ ap (λ (f : Filled). record { parts = f.parts; cursor = record { slot = p.origin; number = p.first + fitting (room - 11) p.commands } }) (sym (short room p [] e fit))
          ∙ ap (λ (n : ℕ). record { parts = (filled room (p ∷ [])).parts; cursor = record { slot = p.origin; number = p.first + n } }) (sym is)
      | false ↦ λ all. tt
    ] refl)
