-- Lines of words, and texts of such lines, are read as they were written.
use Rattle.std.proofs.Common.{◌≡◌, ℕ, ◌+◌, ◌^◌, ◌%◌, ◌<◌, Bool, true, false, eqb, List, [], ◌∷◌, ◌++◌, length, refl, ap, ◌∙◌, arith, lit<, ltb}
use Rattle.std.specs.Prelude.{decimal}
use Rattle.std.specs.List.{AllByRecursion, list_all, join_with_byte}
use Rattle.std.proofs.lemmas.Bool.{and_parts, lt-ltb}
use Rattle.std.proofs.lemmas.Bool.Decides.{nat_tests}
use Rattle.std.proofs.lemmas.Fmt.{decimal_by_steps}
use Rattle.std.proofs.lemmas.List.Elements.{All-from_recursion}
use Rattle.std.proofs.lemmas.List.Splits.{slice_split_none, slice_split_at, join_with_byte-slice_split}
use Rattle.tss_io.specs.Lines.{as_line, Lines, torn, line, lines_of, text_of, words_of, spaced}
use Rattle.tss_io.specs.Forms.{is_word_byte, is_word}
use Rattle.tss_io.specs.Runs.{ahead}

-- ---- words

-- bytes of a word alone
abbrev pub IsWord : List ℕ → Type 0
IsWord word = list_all is_word_byte word ≡ true

pub is_word-bytes : (word : List ℕ) → is_word word ≡ true → IsWord word
unfolding is_word
is_word-bytes word h = (and_parts (ltb 0 (length word)) (list_all is_word_byte word) h).1

pub is_word-some : (word : List ℕ) → 0 < length word → IsWord word → is_word word ≡ true
unfolding is_word
is_word-some word some h = let t : ltb 0 (length word) ≡ true = lt-ltb _ _ some in rw (t, h) refl

pub list_all-append : {X : Type 0} (p : X → Bool) (xs ys : List X) → list_all p xs ≡ true → list_all p ys ≡ true → list_all p (xs ++ ys) ≡ true
list_all-append p [] ys h k = k
list_all-append p (x ∷ xs) ys h k = let both = and_parts (p x) (list_all p xs) h in rw (both.0, list_all-append p xs ys both.1 k) refl

digit_fits : (n : ℕ) → n < 10 → is_word_byte (48 + n) ≡ true
digit_fits n small = grind (arith, nat_tests)

pub IsWord-decimal : (n : ℕ) → n < 2 ^ 64 → IsWord (decimal n)
IsWord-decimal n small =
    decimal_by_steps (λ _ ds. IsWord ds)
    (λ n lt. rw (digit_fits n lt) refl)
    (λ n ds ten rest. list_all-append is_word_byte ds ((48 + n % 10) ∷ []) rest (rw (digit_fits (n % 10) (omega arith)) refl))
    n small

-- ---- a byte that isn't there

abbrev pub Lacks : ℕ → List ℕ → Type 0
Lacks byte bytes = AllByRecursion (λ b. eqb b byte ≡ false) bytes

Lacks-append : (byte : ℕ) (xs ys : List ℕ) → Lacks byte xs → Lacks byte ys → Lacks byte (xs ++ ys)
Lacks-append byte [] ys h k = k
Lacks-append byte (x ∷ xs) ys h k = (h.0, Lacks-append byte xs ys h.1 k)

apart : (b byte : ℕ) → is_word_byte b ≡ true → byte < 33 → eqb b byte ≡ false
apart b byte h low = grind (arith, nat_tests)

Lacks-word : (byte : ℕ) (word : List ℕ) → byte < 33 → IsWord word → Lacks byte word
Lacks-word byte [] low h = tt
Lacks-word byte (b ∷ bytes) low h = let both = and_parts (is_word_byte b) (list_all is_word_byte bytes) h in (apart b byte both.0 low, Lacks-word byte bytes low both.1)

-- ---- a line of words

abbrev pub AreWords : List (List ℕ) → Type 0
AreWords words = AllByRecursion (λ word. is_word word ≡ true) words

pub words_of-spaced : (word : List ℕ) (words : List (List ℕ)) → AreWords (word ∷ words) → words_of (spaced (word ∷ words)) ≡ word ∷ words
unfolding words_of spaced
words_of-spaced word [] fit = slice_split_none (λ b. eqb b 32) word (All-from_recursion _ word (Lacks-word 32 word (lit< tt) (is_word-bytes word fit.0)))
words_of-spaced word (next ∷ words) fit =
    slice_split_at (λ b. eqb b 32) word 32 (join_with_byte 32 (next ∷ words)) (All-from_recursion _ word (Lacks-word 32 word (lit< tt) (is_word-bytes word fit.0))) refl
    ∙ ap (λ (ws : List (List ℕ)). word ∷ ws) (words_of-spaced next words fit.1)

pub spaced-words_of : (l : List ℕ) → spaced (words_of l) ≡ l
unfolding words_of spaced
spaced-words_of l = join_with_byte-slice_split 32 l

pub Lacks-spaced : (words : List (List ℕ)) → AreWords words → Lacks 10 (spaced words)
unfolding spaced
Lacks-spaced [] fit = tt
Lacks-spaced (word ∷ []) fit = Lacks-word 10 word (lit< tt) (is_word-bytes word fit.0)
Lacks-spaced (word ∷ next ∷ words) fit =
    Lacks-append 10 word (32 ∷ join_with_byte 32 (next ∷ words))
    (Lacks-word 10 word (lit< tt) (is_word-bytes word fit.0)) (refl, Lacks-spaced (next ∷ words) fit.1)

-- ---- a text of lines

-- lines without a newline, and nothing behind them
abbrev pub AreLines : Lines → Type 0
AreLines (torn bytes) = bytes ≡ []
AreLines (line l rest) = Lacks 10 l × AreLines rest

pub lines_of-line : (l bytes : List ℕ) → Lacks 10 l → lines_of (as_line l ++ bytes) ≡ line l (lines_of bytes)
unfolding lines_of
lines_of-line [] bytes h = refl
lines_of-line (b ∷ l) bytes h = rw (h.0, lines_of-line l bytes h.1) refl

pub lines_of-text_of : (lines : Lines) → AreLines lines → lines_of (text_of lines) ≡ lines
unfolding text_of lines_of
lines_of-text_of (torn bytes) h = rw h refl
lines_of-text_of (line l rest) h = lines_of-line l (text_of rest) h.0 ∙ ap (line l) (lines_of-text_of rest h.1)

pub AreLines-ahead : (more : List (List ℕ)) (rest : Lines) → AllByRecursion (Lacks 10) more → AreLines rest → AreLines (ahead more rest)
unfolding ahead
AreLines-ahead [] rest fit h = h
AreLines-ahead (l ∷ more) rest fit h = (fit.0, AreLines-ahead more rest fit.1 h)
