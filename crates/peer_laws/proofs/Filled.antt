-- A packet's parts are as much as there is room for.
use Rattle.std.proofs.Common.{◌≡◌, ◌∙◌, ap, ℕ, zero, suc, ◌+◌, ◌-◌, ◌≤◌, ◌<◌, inl, inr, true, false, cond, ◌&&◌, ◌||◌, ◌==◌, List, [], ◌∷◌, ◌++◌, length, take, refl, arith}
use Rattle.std.specs.Prelude.{nat_le, nat_lt}
use Rattle.std.specs.List.{flat_map}
use Rattle.std.proofs.lemmas.Bool.{and_parts, or_parts, leb-true, leb-false, ltb-true, ltb-false, lt-ltb}
use Rattle.std.proofs.lemmas.Bool.Decides.{nat_tests}
use Rattle.std.proofs.lemmas.List.{append-nil, length-append, take_all}
use Rattle.std.proofs.lemmas.List.Concat.{flat_map-cons}
use Rattle.peer_packet.specs.Packet.{Sent, Part, sent_bytes, head_bytes, head_of, part_bytes}
use Rattle.peer_packet.specs.Filling.{Filled, first_part, fitting, ends_before, filled}
use Rattle.peer_packet.proofs.FillLaws.{fit_bytes}
use Rattle.peer_laws.specs.Filled.{some_of, HasWhatFits}

-- with one command more than fit there is no room
tight : (room : ℕ) (cs : List Sent) → fitting room cs < length cs → room < length (flat_map sent_bytes (take (suc (fitting room cs)) cs))
unfolding fitting
tight room [] h = absurd (omega arith)
tight room (c ∷ cs) h =
    let size = 5 + length c.payload in
    let one : length (sent_bytes c) ≡ size = omega arith in
    let k = fitting (room - size) cs in
    elim (nat_le size room) as (λ v. nat_le size room ≡ v → cond {A = ℕ} v (suc k) 0 < suc (length cs) → room < length (flat_map sent_bytes (take (suc (cond {A = ℕ} v (suc k) 0)) (c ∷ cs)))) [
      | true ↦ λ e less.
          let fits = leb-true size room e in
          let more = tight (room - size) cs (omega arith) in
          let whole = ap (λ (t : List ℕ). length t) (flat_map-cons sent_bytes c (take (suc k) cs)) in
          omega (arith, one, more, whole, fits, length-append (sent_bytes c) (flat_map sent_bytes (take (suc k) cs)))
      | false ↦ λ e less.
          let over = leb-false size room e in
          let whole = ap (λ (t : List ℕ). length t) (flat_map-cons sent_bytes c (take 0 cs)) in
          omega (arith, one, whole, over, length-append (sent_bytes c) (flat_map sent_bytes (take 0 cs)))
    ]
    refl h

pub part-long : (p : Part) → length (part_bytes p) ≡ 11 + length (flat_map sent_bytes p.commands)
part-long p = (let h : length (head_bytes (head_of p)) ≡ 11 = omega arith in omega (arith, h, length-append (head_bytes (head_of p)) (flat_map sent_bytes p.commands)))

one-long : (p : Part) → length (flat_map part_bytes (p ∷ [])) ≡ 11 + length (flat_map sent_bytes p.commands)
one-long p =
    ap (λ (t : List ℕ). length t) (flat_map-cons part_bytes p [] ∙ append-nil (part_bytes p)) ∙ part-long p

more-long : (p : Part) (ps : List Part) → length (flat_map part_bytes (p ∷ ps)) ≡ length (part_bytes p) + length (flat_map part_bytes ps)
more-long p ps =
    ap (λ (t : List ℕ). length t) (flat_map-cons part_bytes p ps) ∙ length-append (part_bytes p) (flat_map part_bytes ps)

-- it ends before a part
ended : (room : ℕ) (p : Part) (ps : List Part) → ends_before room p ≡ true
    → HasWhatFits room (p ∷ ps) (record { parts = []; cursor = record { slot = p.origin; number = p.first } })
ended room p ps e =
    let long = one-long (first_part 1 p) in
    let over : room < length (flat_map part_bytes (first_part 1 p ∷ [])) =
    elim (nat_lt room 11) as (λ v. nat_lt room 11 ≡ v → (v || (nat_lt 0 (length p.commands) && (fitting (room - 11) p.commands == 0))) ≡ true → room < length (flat_map part_bytes (first_part 1 p ∷ []))) [
      | true ↦ λ l h. (let less = ltb-true room 11 l in omega arith)
      | false ↦ λ l h.
          let enough = ltb-false room 11 l in
          let both = and_parts (nat_lt 0 (length p.commands)) (fitting (room - 11) p.commands == 0) h in
          let some = ltb-true 0 (length p.commands) both.0 in
          let none : fitting (room - 11) p.commands ≡ 0 = (let b = both.1 in grind (arith, nat_tests)) in
          let less : fitting (room - 11) p.commands < length p.commands = omega arith in
          let next = tight (room - 11) p.commands less in
          let same = ap (λ (n : ℕ). length (flat_map sent_bytes (take (suc n) p.commands))) none in
          omega arith
    ] refl e
    in
    let at : p.first ≡ p.first + 0 = omega arith in
    record {
      fits = omega arith;
      ends = inr (record {
        whole = [];
        last = p;
        others = ps;
        count = 0;
        are = refl;
        parts = refl;
        too_long = over;
        cursor = ap (λ (n : ℕ). record { slot = p.origin; number = n }) at;
      });
    }

some-is : (k : ℕ) (p : Part) → 0 < k → first_part k p ∷ [] ≡ some_of k p
some-is zero p h = absurd (omega arith)
some-is (suc k) p h = refl

-- it ends in a part
cut : (room : ℕ) (p : Part) (ps : List Part) → ends_before room p ≡ false → fitting (room - 11) p.commands < length p.commands
    → let fit = fitting (room - 11) p.commands in
    HasWhatFits room (p ∷ ps) (record { parts = first_part fit p ∷ []; cursor = record { slot = p.origin; number = p.first + fit } })
cut room p ps e less =
    let fit = fitting (room - 11) p.commands in
    let both = or_parts (nat_lt room 11) (nat_lt 0 (length p.commands) && (fit == 0)) e in
    let enough = ltb-false room 11 both.0 in
    let there = lt-ltb 0 (length p.commands) (omega arith) in
    let is : (fit == 0) ≡ false = rw there at both.1 in
    let some : 0 < fit = grind (arith, nat_tests) in
    let bytes = fit_bytes (room - 11) p.commands in
    let long = one-long (first_part fit p) in
    let next = tight (room - 11) p.commands less in
    let after = one-long (first_part (suc fit) p) in
    record {
      fits = omega arith;
      ends = inr (record { whole = []; last = p; others = ps; count = fit; are = refl; parts = some-is fit p some; too_long = omega arith; cursor = refl });
    }

-- a part is put whole, and the packet goes on behind it
gone_on : (room : ℕ) (p : Part) (ps : List Part) (f : Filled) → length (part_bytes p) ≤ room
    → HasWhatFits (room - length (part_bytes p)) ps f → HasWhatFits room (p ∷ ps) (record { parts = p ∷ f.parts; cursor = f.cursor })
gone_on room p ps f enough has =
    let fits = has.fits in
    let long = more-long p f.parts in
    record {
      fits = omega arith;
      ends = elim has.ends [
        | inl all ↦ inl (record { parts = ap (λ (l : List Part). p ∷ l) all.parts; cursor = all.cursor })
        | inr e ↦
            let over = e.too_long in
            let after = more-long p (e.whole ++ first_part (suc e.count) e.last ∷ []) in
            inr (record {
              whole = p ∷ e.whole;
              last = e.last;
              others = e.others;
              count = e.count;
              are = ap (λ (l : List Part). p ∷ l) e.are;
              parts = ap (λ (l : List Part). p ∷ l) e.parts;
              too_long = omega arith;
              cursor = e.cursor;
            })
      ];
    }

whole-long : (room : ℕ) (p : Part) → ends_before room p ≡ false → length p.commands ≤ fitting (room - 11) p.commands → length (part_bytes p) ≤ room
whole-long room p e all =
    let fit = fitting (room - 11) p.commands in
    let both = or_parts (nat_lt room 11) (nat_lt 0 (length p.commands) && (fit == 0)) e in
    let enough = ltb-false room 11 both.0 in
    let bytes = fit_bytes (room - 11) p.commands in
    let same = ap (λ (l : List Sent). length (flat_map sent_bytes l)) (take_all fit p.commands all) in
    let long = part-long p in
    omega arith

pub filled-has : (room : ℕ) (ps : List Part) → HasWhatFits room ps (filled room ps)
unfolding filled
filled-has room [] = record { fits = omega arith; ends = inl (record { parts = refl; cursor = refl }) }
filled-has room (p ∷ ps) =
    let fit = fitting (room - 11) p.commands in
    let stop : Filled = record { parts = []; cursor = record { slot = p.origin; number = p.first } } in
    let short : Filled = record { parts = first_part fit p ∷ []; cursor = record { slot = p.origin; number = p.first + fit } } in
    let more = filled (room - length (part_bytes p)) ps in
    let whole : Filled = record { parts = p ∷ more.parts; cursor = more.cursor } in
    elim (ends_before room p) as (λ v. ends_before room p ≡ v → HasWhatFits room (p ∷ ps) (cond v stop (cond (nat_lt fit (length p.commands)) short whole))) [
      | true ↦ λ e. ended room p ps e
      | false ↦ λ e. elim (nat_lt fit (length p.commands)) as (λ v. nat_lt fit (length p.commands) ≡ v → HasWhatFits room (p ∷ ps) (cond v short whole)) [
        | true ↦ λ l. cut room p ps e (ltb-true fit (length p.commands) l)
        | false ↦ λ l. gone_on room p ps more (whole-long room p e (ltb-false fit (length p.commands) l)) (filled-has (room - length (part_bytes p)) ps)
      ] refl
    ] refl
