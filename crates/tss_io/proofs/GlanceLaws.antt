-- Parts of a line that are read at a glance.
use Rattle.std.proofs.Common.{◌≡◌, ℕ, zero, suc, ◌+◌, ◌-◌, ◌<◌, ◌≤◌, true, false, eqb, ltb, List, [], ◌∷◌, length, take, drop, get_or, Some, Ok, refl, ap, subst, arith, lit<}
use Rattle.std.specs.Prelude.{bytes_eq}
use Rattle.std.specs.List.{list_all, position}
use Rattle.std.proofs.lemmas.Bool.Decides.{nat_tests}
use Rattle.std.proofs.lemmas.Fmt.{decimal_digit}
use Rattle.std.proofs.lemmas.List.Quantifiers.{position-Some}
use Rattle.std.proofs.lemmas.Slice.Eq.{bytes_eq-Decides}
use Rattle.tss_io.specs.Lines.{cut_at, words_of, spaced}
use Rattle.tss_io.specs.Forms.{is_word_byte, is_word, front_at, last_at, number_in}
use Rattle.tss_io.proofs.LineLaws.{words_of_some, words_some}
use Rattle.tss_io.proofs.Spaced.{is_word-some, words_of-spaced}
use Rattle.tss_io.proofs.FormLaws.{front_again, number_again}
use Rattle.tss_io.specs.Glance.{is_gap}

-- bytes of another count are others
pub other_length : (bytes text : List ℕ) → (length bytes ≡ length text → ⊥) → bytes_eq bytes text ≡ false
other_length bytes text other = elim (bytes_eq bytes text) as (λ t. bytes_eq bytes text ≡ t → t ≡ false) [
  | true ↦ λ same. absurd (other (ap length ((bytes_eq-Decides bytes text).0 same)))
  | false ↦ λ _. refl
] refl

front_some : (word : List ℕ) (words : List (List ℕ)) → is_word word ≡ true → ltb 0 (length words) ≡ true → front_at (word ∷ words) ≡ Ok (word, words)
front_some word [] fit some = absurd cc
front_some word (next ∷ more) fit some = front_again word next more fit

byte_fits : (b : ℕ) → 33 ≤ b → b ≤ 126 → is_word_byte b ≡ true
byte_fits b low high = grind (arith, nat_tests)

no_space : (b : ℕ) → 33 ≤ b → eqb b 32 ≡ false
no_space b low = grind (arith, nat_tests)

short_cut : (b : ℕ) (rest : List ℕ) → 33 ≤ b → cut_at 32 (b ∷ 32 ∷ rest) ≡ Some (b ∷ [], rest)
unfolding cut_at
short_cut b rest low = rw (no_space b low) refl

short_words : (b c : ℕ) (rest : List ℕ) → c ≡ 32 → 33 ≤ b → b ≤ 126 → front_at (words_of (b ∷ c ∷ rest)) ≡ Ok (b ∷ [], words_of rest)
short_words b c rest space low high =
    let fit : is_word (b ∷ []) ≡ true = is_word-some (b ∷ []) (lit< tt) (rw (byte_fits b low high) refl) in
    rw (space, words_of_some (b ∷ 32 ∷ rest) (b ∷ [], rest) (short_cut b rest low)) (front_some (b ∷ []) (words_of rest) fit (words_some rest))

-- a first word of one byte
pub front_at_short : (words : List ℕ) → 2 ≤ length words → get_or words 1 0 ≡ 32 → 33 ≤ get_or words 0 0 → get_or words 0 0 ≤ 126
    → front_at (words_of words) ≡ Ok (take 1 words, words_of (drop 1 (drop 1 words)))
front_at_short [] long space low high = absurd (omega arith)
front_at_short (b ∷ []) long space low high = absurd (omega arith)
front_at_short (b ∷ c ∷ rest) long space low high = short_words b c rest space low high

no_gap : (b : ℕ) → is_gap b ≡ false → is_word_byte b ≡ true
no_gap b h = grind (arith, nat_tests)

no_gap_space : (b : ℕ) → is_gap b ≡ false → eqb b 32 ≡ false
no_gap_space b h = grind (arith, nat_tests)

-- up to the first gap, a space, a line is cut, and bytes of a word stand
gap_cut : (line : List ℕ) (at : ℕ) → at < length line → ((k : ℕ) → k < at → is_gap (get_or line k 0) ≡ false) → get_or line at 0 ≡ 32
    → (cut_at 32 line ≡ Some (take at line, drop 1 (drop at line))) × (list_all is_word_byte (take at line) ≡ true)
unfolding cut_at
gap_cut [] at within none space = absurd (omega arith)
gap_cut (b ∷ line) zero within none space = (rw space refl, refl)
gap_cut (b ∷ line) (suc n) within none space =
    let first : is_gap b ≡ false = none 0 (omega arith) in
    let more = gap_cut line n (omega arith) (λ k lt. none (suc k) (omega arith)) space in
    (rw (no_gap_space b first, more.0) refl, rw (no_gap b first, more.1) refl)

some_taken : (line : List ℕ) (at : ℕ) → 0 < at → at < length line → 0 < length (take at line)
some_taken [] at some within = absurd (omega arith)
some_taken (b ∷ line) zero some within = absurd (omega arith)
some_taken (b ∷ line) (suc n) some within = omega arith

-- a first word, up to a space
pub front_at_gap : (line : List ℕ) (at : ℕ) → position (λ b. is_gap b) line ≡ Some at → 0 < at → get_or line at 0 ≡ 32
    → front_at (words_of line) ≡ Ok (take at line, words_of (drop 1 (drop at line)))
front_at_gap line at found some space =
    let first = position-Some (λ b. is_gap b) line at 0 found in
    let cut = gap_cut line at first.0 first.2 space in
    let fit : is_word (take at line) ≡ true = is_word-some (take at line) (some_taken line at some first.0) cut.1 in
    rw (words_of_some line (take at line, drop 1 (drop at line)) cut.0) (front_some (take at line) (words_of (drop 1 (drop at line))) fit (words_some (drop 1 (drop at line))))

-- bytes of a word are the only word
pub last_at_fits : (words : List ℕ) → 0 < length words → list_all is_word_byte words ≡ true → last_at (words_of words) ≡ Ok words
unfolding last_at spaced
last_at_fits words some fit =
    let word : is_word words ≡ true = is_word-some words some fit in
    let alone : words_of words ≡ words ∷ [] = words_of-spaced words [] (word, tt) in
    rw (alone, word) refl

digit_in : (most d : ℕ) → most < 256 → d < 10 → d ≤ most → number_in 0 most ((48 + d) ∷ []) ≡ Ok d
digit_in most d small digit within = rw (← decimal_digit d digit) (number_again 0 most d (omega arith) (omega arith, within))

digit_byte : (most b : ℕ) → most < 256 → 48 ≤ b → b ≤ 57 → b - 48 ≤ most → number_in 0 most (b ∷ []) ≡ Ok (b - 48)
digit_byte most b small low high within =
    let same : 48 + (b - 48) ≡ b = omega arith in
    subst (λ (c : ℕ). number_in 0 most (c ∷ []) ≡ Ok (b - 48)) same (digit_in most (b - 48) small (omega arith) within)

-- a word of one digit
pub number_in_digit : (most : ℕ) (word : List ℕ) → most < 256 → length word ≡ 1 → 48 ≤ get_or word 0 0 → get_or word 0 0 ≤ 57 → get_or word 0 0 - 48 ≤ most
    → number_in 0 most word ≡ Ok (get_or word 0 0 - 48)
number_in_digit most [] small one low high within = absurd (omega arith)
number_in_digit most (b ∷ []) small one low high within = digit_byte most b small low high within
number_in_digit most (b ∷ c ∷ more) small one low high within = absurd (omega arith)
