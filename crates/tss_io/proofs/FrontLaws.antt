-- Digits in front of a text.
use Rattle.std.proofs.Common.{◌≡◌, ℕ, zero, suc, ◌+◌, ◌-◌, ◌<◌, ◌≤◌, ◌^◌, inl, inr, List, [], ◌∷◌, ◌++◌, length, take, drop, get_or, refl, sym, ap, ◌∙◌, add-one, arith}
use Rattle.std.proofs.Math.Seq.{drop-cons}
use Rattle.std.proofs.lemmas.Bool.{cases_lt}
use Rattle.std.proofs.lemmas.Fmt.{decimal-digits_value}
use Rattle.std.proofs.lemmas.List.{take-append-drop, get_or-take, length-take-le}
use Rattle.std.proofs.lemmas.Str.Parse.{numerals_by_value, tells_digits}
use Rattle.std.specs.Prelude.{decimal}
use Rattle.std.specs.Char.{digit_value}
use Rattle.std.specs.Str.Parse.{AllDigits, digits_value}
use Rattle.tss_io.specs.Glance.{IsFront}

next_digit : (text : List ℕ) (at : ℕ) → at < length text → AllDigits 10 (take at text) → digit_value (get_or text at 0) < 10 → AllDigits 10 (take (suc at) text)
next_digit [] at within all digit = absurd (omega arith)
next_digit (b ∷ text) zero within all digit = (digit, tt)
next_digit (b ∷ text) (suc at) within all digit = (all.0, next_digit text at (omega arith) all.1 digit)

-- one digit more
pub digits_more : (text : List ℕ) (at : ℕ) → at < length text → AllDigits 10 (take at text) → digit_value (get_or text at 0) < 10 → AllDigits 10 (take (at + 1) text)
digits_more text at within all digit = rw add-one (next_digit text at within all digit)

-- canonical digits in front of a byte
pub number_stands : (text : List ℕ) (n at stop : ℕ) → IsFront text n at → n < 2 ^ 32 → (at ≡ 0 → ⊥) → (at ≡ length text → ⊥) → get_or text at 0 ≡ stop
    → (1 < at → get_or text 0 0 ≡ 48 → ⊥) → text ≡ decimal n ++ stop ∷ drop 1 (drop at text)
number_stands text n at stop front small some more stops plain =
    let within = front.within in
    let lt : at < length text = omega arith in
    let long : length (take at text) ≡ at = length-take-le at text within in
    let zero_in : get_or (take at text) 0 0 ≡ get_or text 0 0 = get_or-take at text 0 0 (omega arith) in
    let word : take at text ≡ decimal n = rw front.value (sym (decimal-digits_value (numerals_by_value (AllDigits 10) tells_digits) (take at text) front.digits
    (omega arith) (λ zero. elim (cases_lt 1 at) [ inl far ↦ absurd (plain far (sym zero_in ∙ zero)) | inr near ↦ omega arith ]) (omega (arith, front.value)))) in
    let rest = drop-cons text at 0 lt in
    let behind : drop at text ≡ stop ∷ drop 1 (drop at text) = rest ∙ rw stops (ap (λ (t : List ℕ). stop ∷ t) (sym (ap (λ (t : List ℕ). drop 1 t) rest))) in
    sym (take-append-drop at text) ∙ ap (λ (w : List ℕ). w ++ drop at text) word ∙ ap (λ (r : List ℕ). decimal n ++ r) behind
