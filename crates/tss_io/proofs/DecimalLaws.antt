-- Words and the numbers that they write.
use Rattle.std.proofs.Common.{◌≡◌, ℕ, ◌^◌, ◌<◌, ◌≤◌, inl, inr, Bool, true, false, cond, ◌&&◌, List, length, get_or, Some, None, refl, sym, ap, subst, ◌∙◌, arith}
use Rattle.std.specs.Prelude.{bytes_eq, nat_le, decimal}
use Rattle.std.specs.Str.Parse.{IsNumeral, AllDigits, digits_value}
use Rattle.std.proofs.lemmas.Bool.{leb-true, le-leb, cases_lt, false_from_ne_true}
use Rattle.std.proofs.lemmas.Slice.Eq.{bytes_eq-Decides}
use Rattle.std.proofs.lemmas.Bool.Decides.{Decides-and}
use Rattle.std.specs.Bool.{Decides}
use Rattle.std.proofs.lemmas.Fmt.{decimal_is_IsNumeral, decimal_digit, first_decimal, decimal-digits_value}
use Rattle.std.proofs.lemmas.Str.Parse.{numerals_by_value, tells_digits}
use Rattle.tss_io.specs.Decimals.{number_of}

-- the test of the definition says both at once
read_Decides : (word : List ℕ) (n most : ℕ) → Decides (bytes_eq word (decimal n) && nat_le n most) ((word ≡ decimal n) × (n ≤ most))
read_Decides word n most = Decides-and _ _ (bytes_eq-Decides word (decimal n)) (leb-true n most, le-leb n most)

some_if : (b : Bool) (x y : ℕ) → cond b (Some x) None ≡ Some y → (b ≡ true) × (x ≡ y)
some_if true x y e = (refl, cc)
some_if false x y e = absurd cc

-- what a word reads as is written so, and isn't over the limit
pub number_of-some : (word : List ℕ) (most n : ℕ) → number_of word most ≡ Some n → (word ≡ decimal n) × (n ≤ most)
unfolding number_of
number_of-some word most n e =
    let found = some_if (bytes_eq word (decimal (digits_value 10 word)) && nat_le (digits_value 10 word) most) (digits_value 10 word) n e in
    subst (λ (m : ℕ). (word ≡ decimal m) × (m ≤ most)) found.1 ((read_Decides word (digits_value 10 word) most).0 found.0)

-- what is written so is read again
pub number_of-decimal : (n most : ℕ) → n ≤ most → most < 2 ^ 64 → number_of (decimal n) most ≡ Some n
unfolding number_of
number_of-decimal n most le small =
    rw ((decimal_is_IsNumeral n (omega arith)).1, (read_Decides (decimal n) n most).1 (refl, le)) refl

-- a word that is no decimal up to the limit isn't read
pub number_of-none : (word : List ℕ) (most : ℕ) → ((n : ℕ) → n ≤ most → word ≡ decimal n → ⊥) → number_of word most ≡ None
unfolding number_of
number_of-none word most never =
    let test : Bool = bytes_eq word (decimal (digits_value 10 word)) && nat_le (digits_value 10 word) most in
    rw (false_from_ne_true test (λ yes. let found = (read_Decides word (digits_value 10 word) most).0 yes in never (digits_value 10 word) found.1 found.0)) refl

-- a zero in front of another digit is in no decimal
pub padded-decimal : (word : List ℕ) (n : ℕ) → 1 < length word → get_or word 0 0 ≡ 48 → n < 2 ^ 64 → word ≡ decimal n → ⊥
padded-decimal word n long zero small e =
    elim (cases_lt 0 n) [
      | inl more ↦ let first : 48 < get_or word 0 0 = rw e (first_decimal n more small) in absurd (omega arith)
      | inr none ↦
          let short : length word ≡ 1 = ap length (e ∙ decimal_digit n (omega arith)) in
          absurd (omega arith)
    ]

-- digits with no zero in front are the decimal of their number
pub decimal-digits : (word : List ℕ) → IsNumeral 10 word → ((1 < length word) × (get_or word 0 0 ≡ 48) → ⊥) → digits_value 10 word < 2 ^ 64 → word ≡ decimal (digits_value 10 word)
decimal-digits word digits plain small =
    sym (decimal-digits_value (numerals_by_value (AllDigits 10) tells_digits) word digits.1 digits.0
    (λ zero. elim (cases_lt 1 (length word)) [ inl long ↦ absurd (plain (long, zero)) | inr short ↦ omega (arith, digits.0) ])
    small)

-- a word that is a number's decimal is that number in digits
pub value-decimal : (word : List ℕ) (n : ℕ) → word ≡ decimal n → n < 2 ^ 64 → IsNumeral 10 word × (digits_value 10 word ≡ n)
value-decimal word n e small = rw e (decimal_is_IsNumeral n small)
